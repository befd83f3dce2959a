-- An execution of at most so many instructions: how many steps of the machine went, and how it ended (Principles of Operation, chapter 5,
-- "Program execution").
use Rattle.std.specs.Prelude.{◌≡◌, ℕ, zero, suc, ◌<◌, Option, Some, None}
use Rattle.s390x_operations.specs.State.{State}
use Rattle.s390x_machine.specs.Step.{Steps}
use Rattle.s390x_machine.specs.declared.step.StepEnd.TheVariants.{Went, Stopped as Stops, NoRow as HasNoRow}
use Rattle.s390x_execution.specs.declared.execution.End.{End}
use Rattle.s390x_execution.specs.declared.execution.End.TheVariants.{Limit, Stopped, NoRow}
use Rattle.s390x_execution.specs.declared.execution.Execution.{Execution}

-- one more step goes, from a state that was reached
pub record GoesFurther (Reached : State → Type 0) (t : State) : Type 0 where
  pub before : State
  pub reached : Reached before
  pub goes : Steps before Went t

-- n steps of the machine go, one after another, from one state to another
abbrev pub Walks : ℕ → State → State → Type 0
Walks zero s t = t ≡ s
Walks (suc n) s t = GoesFurther (Walks n s) t

-- An execution of at most so many steps ended so in a state, after so many that went: at the limit where all went, and before it where the next
-- step is a stop of this kind, or is at a row that is open. Of the three no two hold at once.
abbrev pub Ends : ℕ → ℕ → State → End → Type 0
Ends steps went t Limit = went ≡ steps
Ends steps went t (Stopped kind address) = (went < steps) × Steps t (Stops kind address) t
Ends steps went t (NoRow address) = (went < steps) × Steps t HasNoRow t × (address ≡ t.address)

-- a step went from one state to the other; or it didn't, and so an execution ends that had one step to go
abbrev pub IsStepped : State → State → Option End → Type 0
IsStepped s t None = Steps s Went t
IsStepped s t (Some e) = (t ≡ s) × Ends 1 0 t e

-- an execution of at most so many steps from one state to another
pub record IsExecution (steps : ℕ) (s t : State) (e : Execution) : Type 0 where
  pub walked : Walks e.went s t
  pub ended : Ends steps e.went t e.end
