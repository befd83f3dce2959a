-- The machine: one step, and runs (Principles of Operation, chapter 5, "Program execution", and chapter 6, "Interruptions").
-- It fetches bytes, and knows of no function, block or typed step.
use Rattle.std.specs.Prelude.{◌≡◌, ℕ, List, [], ◌∷◌, ◌++◌, Option, Some, None, Bool, true, false, if◌then◌else◌}
use Rattle.s390x_format.specs.Formats.{length_of}
use Rattle.s390x_format.specs.declared.fields.Fields.{Fields}
use Rattle.s390x_operations.specs.State.{State, set_general, wrapping_add64, Write, core_after_writes, MayWrite, CodeImage, StoreEvent}
use Rattle.s390x_operations.specs.Access.{store_event}
use Rattle.s390x_operations.specs.Effects.{access, is_selected, MayExecute, MayInterrupt}
use Rattle.s390x_operations.specs.declared.stop.StopKind.{StopKind}
use Rattle.s390x_operations.specs.declared.stop.StopKind.TheVariants as Stop
use Rattle.s390x_machine.specs.Fetch.{Fetched, Misplaced, Missing, Unknown, Found, Fetches}
use Rattle.s390x_machine.specs.Semantics.{action, is_odd_pair, semantics_of}
use Rattle.s390x_format.specs.declared.semantics.RowSemantics.{RowSemantics}
use Rattle.s390x_machine.specs.declared.action_type.Action.{Action}
use Rattle.s390x_machine.specs.declared.action_type.Action.TheVariants.{Perform, Branch, BranchAndSave}

-- what a step does: it goes and stores this, or it stops
pub data Event : Type 0 where
  Executed : Option StoreEvent → Event
  Interrupted : StopKind → Event

-- a stop leaves the state as it was
abbrev pub InterruptsAs : StopKind → State → Event → State → Type 0
InterruptsAs kind s event t = (event ≡ Interrupted kind) × (t ≡ s)

-- an action of an instruction of so many bytes
abbrev pub ActionStep : Action → ℕ → State → Event → State → Type 0
ActionStep (Perform op) size s (Executed x) t = MayExecute op s.core t.core × (t.address ≡ wrapping_add64 s.address size) × (x ≡ store_event (access op.effect) s.core.memory)
ActionStep (Perform op) size s (Interrupted kind) t = MayInterrupt op s.core.memory.has kind × (t ≡ s)
ActionStep (Branch mask target) size s (Executed x) t = (t.core ≡ s.core) × (t.address ≡ if is_selected mask s.core.registers.code then target else wrapping_add64 s.address size) × (x ≡ None)
ActionStep (Branch mask target) size s (Interrupted kind) t = ⊥
ActionStep (BranchAndSave link target) size s (Executed x) t =
    (t ≡ record { core = record { registers = set_general s.core.registers link (wrapping_add64 s.address size); memory = s.core.memory }; address = target }) × (x ≡ None)
ActionStep (BranchAndSave link target) size s (Interrupted kind) t = ⊥

-- an odd pair stops before the operands are looked at
abbrev pub OddPairStep : Bool → Action → ℕ → State → Event → State → Type 0
OddPairStep true a size s event t = InterruptsAs Stop.Specification s event t
OddPairStep false a size s event t = ActionStep a size s event t

-- what the row means is done; each row means something (`each_row_has_semantics`)
abbrev pub RowStep : Option RowSemantics → Fields → ℕ → State → Event → State → Type 0
RowStep None f size s event t = ⊥
RowStep (Some semantics) f size s event t = OddPairStep (is_odd_pair semantics f) (action semantics f s.core.registers s.address) size s event t

-- the order of stops: odd address, instruction bytes, row, odd pair; then those of the operation
abbrev pub FetchedStep : Fetched → State → Event → State → Type 0
FetchedStep Misplaced s event t = InterruptsAs Stop.Specification s event t
FetchedStep Missing s event t = InterruptsAs Stop.Access s event t
FetchedStep Unknown s event t = InterruptsAs Stop.Operation s event t
FetchedStep (Found d) s event t = RowStep (semantics_of d.row.opcode) d.fields (length_of d.row.format) s event t

-- one step of the machine
pub record MachineStep (s : State) (event : Event) (t : State) : Type 0 where
  pub fetched : Fetched
  pub fetches : Fetches s.core.memory s.address fetched
  pub acts : FetchedStep fetched s event t

-- a transition: others' writes, and then one step
pub record Transition : Type 0 where
  pub writes : List Write
  pub event : Event
  pub after : State

-- the state after the transition's writes, before its step
abbrev pub after_writes : State → Transition → State
after_writes s transition = record { core = core_after_writes transition.writes s.core; address = s.address }

-- others may write this, and then the machine takes this step
pub record TransitionStep (image : CodeImage) (s : State) (transition : Transition) : Type 0 where
  pub may : MayWrite image s.core.memory.has transition.writes
  pub goes : MachineStep (after_writes s transition) transition.event transition.after

-- a run of the machine: one transition after another
abbrev pub Run : CodeImage → State → List Transition → Type 0
Run image s [] = Unit {0}
Run image s (transition ∷ trace) = TransitionStep image s transition × Run image transition.after trace

-- the state after all transitions
abbrev pub after_all : State → List Transition → State
after_all s [] = s
after_all s (transition ∷ trace) = after_all transition.after trace

-- all that others write in the transitions, in order
abbrev pub all_writes : List Transition → List Write
all_writes [] = []
all_writes (transition ∷ trace) = transition.writes ++ all_writes trace
