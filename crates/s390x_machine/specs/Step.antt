-- What a step of the machine as a program answers.
use Rattle.std.specs.Prelude.{◌≡◌, ℕ, true, false, IsTrue, Option, Some, None}
use Rattle.s390x_format.specs.declared.decoder.Decoded.{Decoded}
use Rattle.s390x_format.specs.declared.fields.Fields.{Fields}
use Rattle.s390x_lanes.specs.Relation.{divides_by_zero, division_overflows}
use Rattle.s390x_lanes.specs.Rows.{is_operation, is_computed, operation_of}
use Rattle.s390x_lanes.specs.declared.operators.VectorOperation.{VectorOperation}
use Rattle.s390x_lanes.specs.declared.row.VectorRow.{VectorRow}
use Rattle.s390x_operations.specs.Access.{fault, is_misaligned, store_event}
use Rattle.s390x_operations.specs.Bits.{bytes}
use Rattle.s390x_operations.specs.State.{Registers, State, Memory, Core, StoreEvent}
use Rattle.s390x_operations.specs.Effects.{access, source_access, MayExecute, MayInterrupt, MayRefuse}
use Rattle.s390x_operations.specs.Values.{raw}
use Rattle.s390x_operations.specs.declared.operand.Source.{Source}
use Rattle.s390x_operations.specs.declared.operand.Source.TheVariants.{Value, Memory as InMemory, AlignedMemory}
use Rattle.s390x_operations.specs.declared.size.Width.{Width}
use Rattle.s390x_operations.specs.declared.stop.StopKind.{StopKind}
use Rattle.s390x_operations.specs.declared.stop.StopKind.TheVariants.{Divide}
use Rattle.s390x_operations.specs.declared.effect.Operation.{Operation}
use Rattle.s390x_operations.specs.declared.effect.CodeRule.{CodeRule}
use Rattle.s390x_operations.specs.declared.effect.CodeRule.TheVariants.{Kept, Set, Unspecified}
use Rattle.s390x_operations.specs.declared.stop.ConditionCode.{ConditionCode}
use Rattle.s390x_machine.specs.Fetch.{IsFound}
use Rattle.s390x_machine.specs.Machine.{Executed, Interrupted, ActionStep, MachineStep}
use Rattle.s390x_machine.specs.Semantics.{action, semantics_of, vector_field}
use Rattle.s390x_machine.specs.Sound.{is_free}
use Rattle.s390x_format.specs.declared.semantics.RowSemantics.{RowSemantics}
use Rattle.s390x_machine.specs.declared.action_type.Action.{Action}
use Rattle.s390x_machine.specs.declared.action_type.Action.TheVariants.{Perform, Branch, BranchAndSave}
use Rattle.s390x_machine.specs.declared.step.StepEnd.{StepEnd}
use Rattle.s390x_machine.specs.declared.step.StepEnd.TheVariants.{Went, Stopped, NoRow}

-- each quotient of the operation, if it divides vectors, fits into its lane
abbrev pub QuotientsFit : Operation → Type 0
QuotientsFit op = MayRefuse op.effect Divide → ⊥

-- an operation whose quotients fit is done, or it stops and everything is as before
abbrev pub ExecutesOperation : Operation → Core → Option StopKind → Core → Type 0
ExecutesOperation op c None t = MayExecute op c t × QuotientsFit op
ExecutesOperation op c (Some kind) t = MayInterrupt op c.memory.has kind × (t ≡ c)

-- these are an operand's bits; where it is in memory, its access has no fault
pub record IsRead (operand : Source) (width : Width) (m : Memory) (bits : ℕ) : Type 0 where
  pub reached : fault (source_access operand (bytes width)) m.has ≡ None
  pub is : bits ≡ raw operand width m

-- the operand is so many bytes in memory, from this address on, and they are aligned where they have to be
abbrev pub StandsAt : Source → ℕ → ℕ → Type 0
StandsAt (Value x) address n = ⊥
StandsAt (InMemory a) address n = a ≡ address
StandsAt (AlignedMemory a) address n = (a ≡ address) × (is_misaligned true a n ≡ false)

-- the condition code that the machine has after a value, by the rule of its operation: a code that isn't stated stays
abbrev pub code_under : CodeRule → ConditionCode → ConditionCode → ConditionCode
code_under Set code old = code
code_under Kept code old = old
code_under Unspecified code old = old

-- the row's operation is this one, its result is computed, and it doesn't stop
pub record IsPlain (row : VectorRow) (f : Fields) (r : Registers) (operation : VectorOperation) : Type 0 where
  pub means : operation_of row f.masks f.imm ≡ Some operation
  pub is_operation : IsTrue (is_operation operation)
  pub is_computed : IsTrue (is_computed operation)
  pub divides : divides_by_zero operation (vector_field f r 2) ≡ false
  pub fits : division_overflows operation (vector_field f r 1) (vector_field f r 2) ≡ false

-- what an action stores
abbrev pub stored_by : Action → Memory → Option StoreEvent
stored_by (Perform op) m = store_event (access op.effect) m
stored_by (Branch mask target) m = None
stored_by (BranchAndSave link target) m = None

-- the quotients of what an action performs fit
abbrev pub ActionFits : Action → Type 0
ActionFits (Perform op) = QuotientsFit op
ActionFits (Branch mask target) = Unit {0}
ActionFits (BranchAndSave link target) = Unit {0}

-- an action of an instruction of so many bytes is done, or it stops
abbrev pub Executes : Action → ℕ → State → StepEnd → State → Type 0
Executes action size s Went t = ActionStep action size s (Executed (stored_by action s.core.memory)) t × ActionFits action
Executes action size s (Stopped kind address) t = ActionStep action size s (Interrupted kind) t × (address ≡ s.address)
Executes action size s NoRow t = ⊥

-- the instruction at the state's address is of a row that leaves its result free, or whose result isn't computed
pub record IsOpen (s : State) : Type 0 where
  pub found : Decoded
  pub at : IsFound s.core.memory s.address found
  pub semantics : RowSemantics
  pub means : semantics_of found.row.opcode ≡ Some semantics
  pub says_nothing : IsTrue (is_free semantics found.fields s.core.registers)

-- the instruction at the state's address divides vectors, and a lane's quotient doesn't fit
pub record Overflows (s : State) : Type 0 where
  pub found : Decoded
  pub at : IsFound s.core.memory s.address found
  pub semantics : RowSemantics
  pub means : semantics_of found.row.opcode ≡ Some semantics
  pub operation : Operation
  pub performs : action semantics found.fields s.core.registers s.address ≡ Perform operation
  pub unfit : MayRefuse operation.effect Divide

-- the machine goes, storing something or nothing; it stops where a lane's quotient doesn't fit
pub record ExecutesTo (s t : State) : Type 0 where
  pub stored : Option StoreEvent
  pub goes : MachineStep s (Executed stored) t
  pub fits : Overflows s → ⊥

-- the machine takes a step as its end tells, and its row isn't open; at an open row nothing happens
abbrev pub Steps : State → StepEnd → State → Type 0
Steps s Went t = (IsOpen s → ⊥) × ExecutesTo s t
Steps s (Stopped kind address) t = (IsOpen s → ⊥) × MachineStep s (Interrupted kind) t × (address ≡ s.address)
Steps s NoRow t = IsOpen s × (t ≡ s)
