-- What the joint typed steps allow of a machine run.
use Rattle.std.specs.Prelude.{◌≡◌, ℕ, suc, ◌⊎◌, List, [], ◌∷◌, ◌++◌, Some, slice_get}
use Rattle.s390x_typed_steps.specs.StepBody.{Calling}
use Rattle.s390x_typed_steps.specs.Steps.{CallingStep}
use Rattle.s390x_operations.specs.State.{Core, State, CodeImage, core_after_writes, IsLoaded}
use Rattle.s390x_machine.specs.CodeAt.{IsBlock}
use Rattle.s390x_machine.specs.Layout.{Layout, block_address, step_address}
use Rattle.s390x_machine.specs.Machine.{Transition, Run, after_all, all_writes}
use Rattle.s390x_machine.specs.Match.{concatenation, start, IsGroup, IsUnderWay, EndsMatch, return_address}
use Rattle.s390x_machine.specs.Typed.{Ended}
use Rattle.s390x_schedule.specs.Joint.{JointPosition, Running, Finished, JointStep, WrongIn}

-- where the joint run goes on, the machine stands at that step of that member, with this core
abbrev pub StandsAt : List Layout → JointPosition → Core → State → Type 0
StandsAt members (Running m k) t s = (L : Layout) × (slice_get members m ≡ Some L) × (s ≡ start L k t)
StandsAt members (Finished m e) t s = Unit {0}

-- a joint run and its groups of at most four transitions, one for each step; the group's writes come before the step
abbrev pub JointRun : List Layout → JointPosition → Core → List (List Transition) → JointPosition → Core → Type 0
JointRun members position c [] position' t = (position' ≡ position) × (t ≡ c)
JointRun members (Finished m e) c (g ∷ gs) position' t = ⊥
JointRun members (Running m k) c (g ∷ gs) position' t =
    (next : JointPosition) × (mid : Core) × (x : JointStep members m k (core_after_writes (all_writes g) c) next mid) × IsGroup x.layout k c g x.own mid × StandsAt members next mid (after_all (start x.layout k c) g) × JointRun members next mid gs position' t

-- how it ends: where the joint run stands, the machine's state there, and the rest of the machine's run
abbrev pub JointEndsMatch : CodeImage → List Layout → JointPosition → Core → State → List Transition → Type 0
JointEndsMatch whole members (Running m k) t s rest = (L : Layout) × (slice_get members m ≡ Some L) × (s ≡ start L k t) × (WrongIn whole L k t ⊎ IsUnderWay L k s rest)
JointEndsMatch whole members (Finished m e) t s rest = (L : Layout) × (slice_get members m ≡ Some L) × EndsMatch L (Ended e) t s rest

-- The joint steps from step k of a member allow the machine's run from a state: its first transitions fall into groups, one for each step, and the ends match
-- behind them. The joint run begins with the machine's own registers, code and memory
pub record JointlyAllowed (whole : CodeImage) (members : List Layout) (m k : ℕ) (s : State) (trace : List Transition) : Type 0 where
  pub groups : List (List Transition)
  pub rest : List Transition
  pub split : trace ≡ concatenation groups ++ rest
  pub position : JointPosition
  pub core : Core
  pub run : JointRun members (Running m k) s.core groups position core
  pub ends_match : JointEndsMatch whole members position core (after_all s (concatenation groups)) rest

-- Every machine run from an address, of any length, in every state in which the whole image lies in memory, is allowed by the joint steps from step k of a
-- member. The transitions have others' writes before each step, none of them into the whole image, so this is over every list of them
abbrev pub EveryJointRunFrom : CodeImage → List Layout → (address m k : ℕ) → Type 0
EveryJointRunFrom whole members a m k =
    (c : Core) → IsLoaded whole c.memory → (trace : List Transition) → Run whole (record { core = c; address = a }) trace → JointlyAllowed whole members m k (record { core = c; address = a }) trace

-- from the address of any step of a member
abbrev pub EveryJointRun : CodeImage → List Layout → Type 0
EveryJointRun whole members = (m : ℕ) (L : Layout) → slice_get members m ≡ Some L → (k : ℕ) → EveryJointRunFrom whole members (step_address L k) m k

-- from the start of any block of a member
abbrev pub EveryJointBlockRun : CodeImage → List Layout → Type 0
EveryJointBlockRun whole members = (m : ℕ) (L : Layout) → slice_get members m ≡ Some L → (b : ℕ) → IsBlock L b → EveryJointRunFrom whole members (block_address L b) m (L.first_step b)

-- from the return place of any call of a member
abbrev pub EveryJointReturnRun : CodeImage → List Layout → Type 0
EveryJointReturnRun whole members =
    (m : ℕ) (L : Layout) → slice_get members m ≡ Some L → (k : ℕ) (c : Calling) → slice_get L.steps k ≡ Some (CallingStep c) → EveryJointRunFrom whole members (return_address L k c) m (suc k)
