use Rattle.std.proofs.Common.{◌≡◌, ℕ, ◌^◌, ◌<◌, true, false, refl, sym, ap, ap₂, ◌∙◌, subst, arith}
use Rattle.std.specs.Prelude.{slice_index}
use Rattle.s390x_operations.specs.State.{number_at, reaches, set_vector, wrapping_add64}
use Rattle.s390x_operations.specs.Vectors.{layout_bytes, register_after_load}
use Rattle.s390x_operations.specs.declared.effect.VectorLayout.{VectorLayout}
use Rattle.s390x_operations.specs.declared.stop.StopKind.TheVariants.{Access}
use Rattle.s390x_machine.specs.Semantics.{all_bits, indexed_address, vector_field, vector_layout_of}
use Rattle.s390x_machine.specs.State.{registers_of, state_of}
use Rattle.s390x_format.specs.declared.semantics.RowSemantics.TheVariants.{LoadVector}
use Rattle.s390x_machine.specs.declared.step.StepEnd.TheVariants.{Stopped, Went}
use Rattle.s390x_machine.proofs.Stepping.{executed}
use Rattle.s390x_machine.proofs.VectorAccess.{load_stops, vector_loaded}
use Rattle.s390x_machine.proofs.vector_step.vector_load_step.Goals as goal

pub vector_in-value-requires : goal.vector_in-value-requires
vector_in-value-requires g c =
    sym (sym c.if-not-has_all.false ∙ c.has_all.ensures ∙ ap (λ (n : ℕ). reaches (g.M.Memory.held c.args.memory.now) c.indexed_address-address.result n) c.layout_bytes.ensures.value)

pub returns-then-not-has_all : goal.returns-then-not-has_all
returns-then-not-has_all g c =
    let held = g.M.Memory.held c.args.memory.now in
    let s = state_of c.args.machine.now held (g.M.Memory.byte c.args.memory.now) in
    let d = c.args.decoded.now in
    let layout = vector_layout_of c.args.storage d.fields in
    let address = indexed_address d.fields s.core.registers in
    let count : c.layout_bytes.result ≡ layout_bytes layout = c.layout_bytes.ensures.value ∙ ap (λ (l : VectorLayout). layout_bytes l) c.layout_of-layout.ensures in
    let missing : reaches held address (layout_bytes layout) ≡ false = sym (sym c.if-not-has_all.true ∙ c.has_all.ensures ∙ ap₂ (λ (a n : ℕ). reaches held a n) c.indexed_address-address.ensures count) in
    executed s d (LoadVector c.args.storage) (Stopped Access s.address) s c.requires.found c.requires.is refl refl
    ((load_stops layout (slice_index d.fields.regs 0) (vector_field d.fields s.core.registers 0) all_bits address held missing, refl), refl)

pub returns : goal.returns
returns g c =
    let held = g.M.Memory.held c.args.memory.now in
    let byte = g.M.Memory.byte c.args.memory.now in
    let s = state_of c.args.machine.now held byte in
    let d = c.args.decoded.now in
    let target = slice_index d.fields.regs 0 in
    let layout = vector_layout_of c.args.storage d.fields in
    let old = vector_field d.fields s.core.registers 0 in
    let address = indexed_address d.fields s.core.registers in
    let count : c.layout_bytes.result ≡ layout_bytes layout = c.layout_bytes.ensures.value ∙ ap (λ (l : VectorLayout). layout_bytes l) c.layout_of-layout.ensures in
    let reached : reaches held address (layout_bytes layout) ≡ true = sym (sym c.if-not-has_all.false ∙ c.has_all.ensures ∙ ap₂ (λ (a n : ℕ). reaches held a n) c.indexed_address-address.ensures count) in
    let value : c.vector_in-value.result ≡ register_after_load layout old (number_at byte address (layout_bytes layout)) =
    c.vector_in-value.ensures
    ∙ ap (λ (l : VectorLayout). register_after_load l c.vector-old.result (number_at byte c.indexed_address-address.result (layout_bytes l))) c.layout_of-layout.ensures
    ∙ ap₂ (λ (o a : ℕ). register_after_load layout o (number_at byte a (layout_bytes layout))) c.vector-old.ensures c.indexed_address-address.ensures in
    let in_range : c.vector_in-value.result < 2 ^ 128 = omega arith in
    let small = subst (λ (x : ℕ). x < 2 ^ 128) value in_range in
    let after = c.put_vector.ensures.registers ∙ ap (λ (x : ℕ). set_vector s.core.registers target x) value in
    let goes = vector_loaded layout target old all_bits address s.core (registers_of c.put_vector.new.self) reached small after in
    executed s d (LoadVector c.args.storage) Went _ c.requires.found c.requires.is refl refl ((goes, ap₂ wrapping_add64 c.put_vector.ensures.place c.length.ensures, refl), λ h. h)
