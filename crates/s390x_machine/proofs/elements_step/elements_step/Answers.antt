use Rattle.std.proofs.Common.{◌≡◌, ℕ, ◌^◌, ◌<◌, Option, refl, ap, ap₂, ◌∙◌, subst, arith}
use Rattle.std.specs.Prelude.{slice_index}
use Rattle.s390x_lanes.specs.Relation.{code_of}
use Rattle.s390x_lanes.specs.Results.{vector_result}
use Rattle.s390x_operations.specs.State.{Registers, set_vector, with_code, wrapping_add64}
use Rattle.s390x_operations.specs.Effects.{vector_code}
use Rattle.s390x_machine.specs.Semantics.{vector_field}
use Rattle.s390x_machine.specs.State.{registers_of, state_of}
use Rattle.s390x_machine.proofs.VectorValues.{elements_executed, vectors_computed}
use Rattle.s390x_machine.proofs.elements_step.elements_step.Goals as goal

pub returns : goal.returns
returns c held byte found =
    let s = state_of c.args.machine.now held byte in
    let d = c.args.decoded.now in
    let r = s.core.registers in
    let target = slice_index d.fields.regs 0 in
    let first = vector_field d.fields r 0 in
    let second = vector_field d.fields r 1 in
    let third = vector_field d.fields r 2 in
    let fourth = vector_field d.fields r 3 in
    let plain = c.requires.plain in
    let result = vector_result c.args.operation first second third fourth in
    let value : c.value_of-value.result ≡ result = c.value_of-value.ensures ∙ ap₂ (λ (a b : ℕ). vector_result c.args.operation a b c.vector-third.result c.vector-fourth.result) c.vector-first.ensures c.vector-second.ensures ∙ ap₂ (λ (x y : ℕ). vector_result c.args.operation first second x y) c.vector-third.ensures c.vector-fourth.ensures in
    let in_range : c.value_of-value.result < 2 ^ 128 = omega arith in
    let small : result < 2 ^ 128 = subst (λ (x : ℕ). x < 2 ^ 128) value in_range in
    let number : c.code-number.result ≡ code_of c.args.operation first second third = c.code-number.ensures ∙ ap₂ (λ (a b : ℕ). code_of c.args.operation a b c.vector-third.result) c.vector-first.ensures c.vector-second.ensures ∙ ap (λ (x : ℕ). code_of c.args.operation first second x) c.vector-third.ensures in
    let code = c.vector_code-code.ensures ∙ ap₂ (λ k (n : Option ℕ). vector_code k n) c.condition_code.ensures number in
    let after = c.set_condition_code.ensures.registers ∙ ap₂ (λ k (q : Registers). with_code k q) code (c.put_vector.ensures.registers ∙ ap (λ (x : ℕ). set_vector r target x) value) in
    let goes = vectors_computed c.args.operation target first second third fourth s.core (registers_of c.set_condition_code.new.self) plain.divides small after in
    elements_executed s _ d c.args.row c.args.operation found c.requires.is plain
    (goes, ap₂ wrapping_add64 (c.set_condition_code.ensures.place ∙ c.put_vector.ensures.place) c.length.ensures, refl)
