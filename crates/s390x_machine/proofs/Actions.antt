-- What a row does goes or stops: each effect of a row has a value.
use Rattle.std.proofs.Common.{ℕ, ◌-◌, ◌^◌, ◌%◌, ◌<◌, Bool, true, false, cond, nat_lt, ◌==◌, Option, None, Some, pos, refl, arith}
use Rattle.std.proofs.Math.Pow.{pow_pos}
use Rattle.s390x_format.specs.declared.fields.Fields.{Fields}
use Rattle.s390x_lanes.specs.declared.size.ElementSize.{ElementSize}
use Rattle.s390x_lanes.specs.declared.size.ElementSize.TheVariants.{Doubleword as LongElement}
use Rattle.s390x_lanes.specs.declared.operators.VectorOperation.{VectorOperation}
use Rattle.s390x_lanes.specs.Size.{lane_count, element_bits}
use Rattle.s390x_lanes.specs.Rows.{operation_of}
use Rattle.s390x_operations.specs.State.{Registers, State, set_general, wrapping_add64}
use Rattle.s390x_operations.specs.Access.{store_event}
use Rattle.s390x_operations.specs.Effects.{access, is_selected}
use Rattle.s390x_operations.specs.declared.effect.Operation.{Operation}
use Rattle.s390x_machine.specs.Operands.{address_by_base, performed_where}
use Rattle.s390x_machine.specs.Semantics.{register_field, mask_field, vector_field, element_size, all_bits, left_bits, action, on_elements}
use Rattle.s390x_format.specs.declared.semantics.RowSemantics.{RowSemantics}
use Rattle.s390x_format.specs.declared.semantics.RowSemantics.TheVariants.{MoveWhere, RotateThen}
use Rattle.s390x_format.specs.declared.semantics.RowSemantics.TheVariants.{BranchToRegister}
use Rattle.s390x_format.specs.declared.semantics.RowSemantics.TheVariants.{Elements, ShiftElements, LoadVector, LoadLeft, MoveLeft, RegisterToLeft, JoinRegisters, InsertElement, ExtractElement}
use Rattle.s390x_machine.specs.declared.action_type.Action.{Action}
use Rattle.s390x_machine.specs.declared.action_type.Action.TheVariants.{Perform, Branch, BranchAndSave}
use Rattle.s390x_machine.specs.Machine.{Event, Executed, Interrupted, ActionStep}
use Rattle.s390x_machine.proofs.Results.{result_lt}
use Rattle.s390x_machine.proofs.Operations.{IsAllowed, operation_allowed}
use Rattle.s390x_machine.proofs.Effects.{HasValue, Does, Goes, Stops, operation_does}

-- an operation's effect has a value; a branch needs none
abbrev pub ActionHasValue : Action → Type 0
ActionHasValue (Perform op) = HasValue op.effect
ActionHasValue (Branch mask target) = Unit {0}
ActionHasValue (BranchAndSave link target) = Unit {0}

-- ---- what each row does has a value

all_lt : all_bits < 2 ^ 128
all_lt = omega arith

left_lt : (size : ElementSize) → left_bits size < 2 ^ 128
left_lt size = omega (arith, pow_pos (128 - element_bits size))

elements_have : (operation : Option VectorOperation) (target a b c d : ℕ) → IsAllowed operation → a < 2 ^ 128 → b < 2 ^ 128 → c < 2 ^ 128 → ActionHasValue (on_elements operation target a b c d)
elements_have None target a b c d h p q r = pow_pos 128
elements_have (Some operation) target a b c d h p q r = result_lt operation h a b c d p q r

either_has : (b : Bool) (x y : Action) → ActionHasValue x → ActionHasValue y → ActionHasValue (cond b x y)
either_has true x y h k = h
either_has false x y h k = k

where_has : (b : Bool) (op : Operation) → HasValue op.effect → ActionHasValue (Perform (performed_where b op))
where_has true op h = h
where_has false op h = tt

-- the vector registers that the fields name have 128 bits
abbrev pub VectorsFit : Fields → Registers → Type 0
VectorsFit f r = (i : ℕ) → vector_field f r i < 2 ^ 128

pub row_has : (semantics : RowSemantics) (f : Fields) (r : Registers) (address : ℕ) → VectorsFit f r → ActionHasValue (action semantics f r address)
row_has (Elements row) f r address h =
    elements_have (operation_of row f.masks f.imm) (register_field f 0) (vector_field f r 0) (vector_field f r 1) (vector_field f r 2) (vector_field f r 3) (operation_allowed row f.masks f.imm) (h 0) (h 1) (h 2)
row_has (ShiftElements row) f r address h =
    let amount = pos (address_by_base r (register_field f 1) f.disp % 64) in
    elements_have (operation_of row f.masks amount) (register_field f 0) (vector_field f r 0) (vector_field f r 2) 0 0 (operation_allowed row f.masks amount) (h 0) (h 2) (pow_pos 128)
row_has (LoadVector storage) f r address h = all_lt
row_has (LoadLeft size) f r address h = left_lt size
row_has (MoveLeft size) f r address h = left_lt size
row_has RegisterToLeft f r address h = left_lt LongElement
row_has JoinRegisters f r address h = all_lt
row_has InsertElement f r address h = either_has (nat_lt (address_by_base r (register_field f 1) f.disp) (lane_count (element_size f))) _ _ all_lt (pow_pos 128)
row_has ExtractElement f r address h = either_has (nat_lt (address_by_base r (register_field f 1) f.disp) (lane_count (element_size f))) _ _ tt tt
row_has (MoveWhere size s) f r address h = where_has (is_selected (mask_field f 0) r.code) _ tt
row_has (RotateThen op rule) f r address h = either_has (nat_lt (mask_field f 0) 64) _ _ tt tt
row_has BranchToRegister f r address h = either_has (register_field f 1 == 0) _ _ tt tt
row_has semantics f r address h = tt

-- ---- an action goes or stops

-- a step of an action
pub record ActionGoes (a : Action) (size : ℕ) (s : State) : Type 0 where
  pub event : Event
  pub after : State
  pub acts : ActionStep a size s event after

operation_goes : (op : Operation) (size : ℕ) (s : State) → Does op s.core → ActionGoes (Perform op) size s
operation_goes op size s (Goes t may) =
    record { event = Executed (store_event (access op.effect) s.core.memory); after = record { core = t; address = wrapping_add64 s.address size }; acts = (may, refl, refl) }
operation_goes op size s (Stops kind may) = record { event = Interrupted kind; after = s; acts = (may, refl) }

pub action_goes : (a : Action) (size : ℕ) (s : State) → ActionHasValue a → ActionGoes a size s
action_goes (Perform op) size s h = operation_goes op size s (operation_does op s.core h)
action_goes (Branch mask target) size s h =
    record { event = Executed None; after = record { core = s.core; address = cond (is_selected mask s.core.registers.code) target (wrapping_add64 s.address size) }; acts = (refl, refl, refl) }
action_goes (BranchAndSave link target) size s h =
    record {
      event = Executed None;
      after = record { core = record { registers = set_general s.core.registers link (wrapping_add64 s.address size); memory = s.core.memory }; address = target };
      acts = (refl, refl);
    }
