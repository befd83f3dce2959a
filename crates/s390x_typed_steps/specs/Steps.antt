-- The typed steps: a flat list that is numbered once, from 0.
use Rattle.std.specs.Prelude.{ℕ, zero, suc, ◌+◌, List, [], ◌∷◌, ◌++◌, Bool, Option}
use Rattle.s390x_typed_steps.specs.Tree.{Remainder, StepBody, Tree, Whole, Loaded, Folded, CallStep, NoLoad, TailOpening, TailJump, empty, leaf, loop_node}
use Rattle.s390x_inst.specs.declared.calls.CallInstDest.{CallInstDest}
use Rattle.s390x_inst.specs.declared.inst.Inst.{Inst}
use Rattle.s390x_inst.specs.declared.inst.Inst.TheVariants.{CondBreak}
use Rattle.s390x_typed_steps.specs.StepBody.{Calling}

-- A `Loop` gives an opening step without bytes, the steps of its members, and a back branch to the step after the opening.
-- A `CondBreak` in it goes to the step after that back branch. A call has a step before those of its results' loads, and a tail call an opening one without bytes
-- and its jump. Every other instruction is one step.
pub data Step : Type 0 where
  Plain : Inst → Step
  -- an instruction of whose branches this is left
  Shortened : Remainder → Inst → Step
  -- one whose operand's address is loaded first, since the machine lacks the row for it
  LoadedStep : Inst → Step
  Opening : Step
  Back : (mask target : ℕ) → Step
  Break : (mask target : ℕ) → Step
  CallingStep : Calling → Step
  NoLoadStep : Step
  TailOpeningStep : (target : CallInstDest) → (first_saved : Option ℕ) → (is_lost : Bool) → Step
  TailJumpStep : (target : CallInstDest) → Step

-- how many steps a tree has
abbrev pub step_count : Tree → ℕ
step_count empty = 0
step_count (leaf b rest) = 1 + step_count rest
step_count (loop_node mask members rest) = 2 + step_count members + step_count rest

-- a body in a loop that ends at a step
abbrev pub step_of : ℕ → StepBody → Step
step_of after (Whole (CondBreak mask)) = Break mask after
step_of after (Whole i) = Plain i
step_of after (Folded r i) = Shortened r i
step_of after (Loaded i) = LoadedStep i
step_of after (CallStep c) = CallingStep c
step_of after NoLoad = NoLoadStep
step_of after (TailOpening target first_saved is_lost) = TailOpeningStep target first_saved is_lost
step_of after (TailJump target) = TailJumpStep target

-- the steps from number k on, in a loop that ends at the step `after`
abbrev pub steps_of : (k after : ℕ) → Tree → List Step
steps_of k after empty = []
steps_of k after (leaf b rest) = step_of after b ∷ steps_of (k + 1) after rest
steps_of k after (loop_node mask members rest) =
    Opening ∷ (steps_of (k + 1) (k + 2 + step_count members) members ++ (Back mask (k + 1) ∷ steps_of (k + 2 + step_count members) after rest))

-- block by block, from number k on
abbrev pub steps_from : ℕ → List Tree → List Step
steps_from k [] = []
steps_from k (t ∷ ts) = steps_of k 0 t ++ steps_from (k + step_count t) ts

-- the steps of a function
abbrev pub function_steps : List Tree → List Step
function_steps ts = steps_from 0 ts

-- the first step of a block; where the block is empty, the next step
abbrev pub first_step : List Tree → ℕ → ℕ
first_step [] b = 0
first_step (t ∷ ts) zero = 0
first_step (t ∷ ts) (suc b) = step_count t + first_step ts b
