-- A step that has an operation's value of vector registers is the row's.
use Rattle.std.proofs.Common.{◌≡◌, ℕ, ◌^◌, ◌<◌, Bool, false, not, if◌then◌else◌, Option, None, Some, refl, sym, ap, ◌∙◌, subst, true≢false}
use Rattle.s390x_format.specs.declared.decoder.Decoded.{Decoded}
use Rattle.s390x_format.specs.declared.semantics.RowSemantics.TheVariants.{Elements}
use Rattle.s390x_format.specs.Formats.{length_of}
use Rattle.s390x_lanes.specs.declared.row.VectorRow.{VectorRow}
use Rattle.s390x_machine.specs.Fetch.{IsFound}
use Rattle.s390x_machine.specs.Machine.{ActionStep, Executed}
use Rattle.s390x_machine.specs.Semantics.{on_elements, register_field, semantics_of, vector_field}
use Rattle.s390x_machine.specs.Sound.{is_uncomputed}
use Rattle.s390x_machine.specs.Step.{Executes, IsPlain, Steps}
use Rattle.s390x_machine.specs.declared.step.StepEnd.TheVariants.{Went}
use Rattle.s390x_machine.proofs.Stepping.{executed}
use Rattle.s390x_lanes.specs.Relation.{Gives, code_of, divides_by_zero}
use Rattle.s390x_lanes.specs.Results.{vector_result}
use Rattle.s390x_lanes.specs.declared.operators.VectorOperation.{VectorOperation}
use Rattle.s390x_operations.specs.State.{Core, Registers, State, set_vector, with_code}
use Rattle.s390x_operations.specs.Effects.{MayExecute, vector_code}
use Rattle.s390x_operations.specs.declared.effect.Effect.TheVariants.{ComputeVector}
use Rattle.s390x_operations.specs.declared.effect.CodeRule.TheVariants.{Set}
use Rattle.s390x_operations.specs.declared.stop.ConditionCode.{ConditionCode}
use Rattle.s390x_operations.specs.declared.stop.StopKind.{StopKind}
use Rattle.s390x_operations.specs.declared.stop.StopKind.TheVariants.{Divide}

-- the stop of a division by zero
abbrev stop_where : Bool → Option StopKind
stop_where zero = if zero then Some Divide else None

pub vectors_computed : (operation : VectorOperation) (target first second third fourth : ℕ) (c : Core) (r : Registers) → divides_by_zero operation third ≡ false → vector_result operation first second third fourth < 2 ^ 128 →
    r ≡ with_code (vector_code c.registers.code (code_of operation first second third)) (set_vector c.registers target (vector_result operation first second third fourth)) →
    MayExecute (record { effect = ComputeVector operation target first second third fourth; rule = Set }) c (record { registers = r; memory = c.memory })
vectors_computed operation target first second third fourth c r divides small h =
    let x : ℕ = vector_result operation first second third fourth in
    let code : r.code ≡ vector_code c.registers.code (code_of operation first second third) = ap (λ (q : Registers). q.code) h in
    let gives : Gives operation first second third fourth x (code_of operation first second third) = record { no_zero_divisor = divides; result = λ t. refl; fits = small; code_set = refl } in
    record {
      reached = refl;
      allowed = ap stop_where divides;
      results = (x, gives, h ∙ ap (λ (k : ConditionCode). with_code k (set_vector c.registers target x)) (sym code));
      code = code;
      memory = refl;
    }

pub elements_executed : (s t : State) (d : Decoded) (row : VectorRow) (operation : VectorOperation) → IsFound s.core.memory s.address d → semantics_of d.row.opcode ≡ Some (Elements row) → IsPlain row d.fields s.core.registers operation →
    ActionStep (on_elements (Some operation) (register_field d.fields 0) (vector_field d.fields s.core.registers 0) (vector_field d.fields s.core.registers 1) (vector_field d.fields s.core.registers 2) (vector_field d.fields s.core.registers 3)) (length_of d.row.format) s (Executed None) t → Steps s Went t
elements_executed s t d row operation found is plain acts =
    let r = s.core.registers in
    let free = ap is_uncomputed plain.means ∙ ap not plain.is_computed in
    executed s d (Elements row) Went t found is free refl
    (subst (λ (o : Option VectorOperation). Executes (on_elements o (register_field d.fields 0) (vector_field d.fields r 0) (vector_field d.fields r 1) (vector_field d.fields r 2) (vector_field d.fields r 3)) (length_of d.row.format) s Went t) (sym plain.means)
    (acts, λ h. true≢false (sym h.1 ∙ plain.fits)))
