-- Progress: the machine has a step.
use Rattle.std.specs.Prelude.{◌≡◌, ℕ, Bool, List, [], ◌∷◌}
use Rattle.s390x_operations.specs.State.{State, Write, CodeImage, MayWrite}
use Rattle.s390x_machine.specs.Machine.{Event, MachineStep, Transition, TransitionStep, Run}

-- the machine has a step: it goes, or it stops
pub record HasStep (s : State) : Type 0 where
  pub event : Event
  pub after : State
  pub step : MachineStep s event after

-- it has one after others have written this
pub record HasTransition (image : CodeImage) (s : State) (writes : List Write) : Type 0 where
  pub event : Event
  pub after : State
  pub step : TransitionStep image s (record { writes = writes; event = event; after = after })

-- others may make each of these lists of writes
abbrev pub MayWriteEach : CodeImage → (ℕ → Bool) → List (List Write) → Type 0
MayWriteEach image has [] = Unit {0}
MayWriteEach image has (writes ∷ later) = MayWrite image has writes × MayWriteEach image has later

-- what others write before each step
abbrev pub writes_before : List Transition → List (List Write)
writes_before [] = []
writes_before (transition ∷ trace) = transition.writes ∷ writes_before trace

-- the machine has a run in which others write this before each step
pub record HasRun (image : CodeImage) (s : State) (others : List (List Write)) : Type 0 where
  pub trace : List Transition
  pub run : Run image s trace
  pub writes : writes_before trace ≡ others
