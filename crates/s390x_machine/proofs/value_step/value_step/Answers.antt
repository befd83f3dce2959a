use Rattle.std.proofs.Common.{◌≡◌, ℕ, refl, ap, ap₂, ◌∙◌, subst}
use Rattle.std.specs.Prelude.{slice_index}
use Rattle.s390x_operations.specs.declared.operand.Operand.{Operand}
use Rattle.s390x_operations.specs.declared.effect.Effect.TheVariants as Effect
use Rattle.s390x_operations.specs.Effects.{MayExecute}
use Rattle.s390x_operations.specs.Bits.{extended_bits}
use Rattle.s390x_operations.specs.State.{wrapping_add64}
use Rattle.s390x_operations.specs.Values.{in_byte_order, operand_value}
use Rattle.s390x_machine.specs.Operands.{value_in}
use Rattle.s390x_machine.specs.Semantics.{first_register, operand}
use Rattle.s390x_machine.specs.State.{registers_of, state_of, memory_of}
use Rattle.s390x_format.specs.declared.semantics.RowSemantics.TheVariants.{Compute}
use Rattle.s390x_machine.specs.declared.step.StepEnd.TheVariants.{Went}
use Rattle.s390x_machine.proofs.Stepping.{executed}
use Rattle.s390x_machine.proofs.ValueSteps.{computed}
use Rattle.s390x_machine.proofs.value_step.value_step.Goals as goal

pub returns : goal.returns
returns c held byte found read =
    let s = state_of c.args.machine.now held byte in
    let d = c.args.decoded.now in
    let y : Operand = operand c.args.second d.fields s.core.registers s.address in
    let part : ℕ = value_in c.args.computation.size s.core.registers c.first_register-first.result in
    let first : part ≡ value_in c.args.computation.size s.core.registers (first_register c.args.second.operand_source d.fields) = ap (λ (i : ℕ). value_in c.args.computation.size s.core.registers i) c.first_register-first.ensures.value in
    let bits = c.in_byte_order-bits.ensures ∙ ap (λ (x : ℕ). in_byte_order c.args.second.reversed c.args.second.width x) read.is in
    let other : c.extended_bits-other.result ≡ operand_value c.args.computation.size y s.core.memory = c.extended_bits-other.ensures.value ∙ ap (λ (x : ℕ). extended_bits c.args.second.sign c.args.second.width c.args.computation.size x) bits in
    let may = computed c.args.computation.operator c.args.computation.size y c.args.computation.rule (slice_index d.fields.regs 0) part c.extended_bits-other.result s.core (registers_of c.compute.new.machine) read.reached other c.compute.ensures.registers in
    let goes = subst (λ (x : ℕ). MayExecute (record { effect = Effect.Compute c.args.computation.operator c.args.computation.size (slice_index d.fields.regs 0) x y; rule = c.args.computation.rule }) s.core (record { registers = registers_of c.compute.new.machine; memory = memory_of held byte })) first may in
    executed s d (Compute c.args.computation.operator c.args.computation.size c.args.second c.args.computation.rule) Went _ found c.requires.is refl refl ((goes, ap₂ wrapping_add64 c.compute.ensures.place c.length.ensures, refl), λ h. h)
