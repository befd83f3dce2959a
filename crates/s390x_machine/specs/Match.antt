-- What the typed steps allow of a machine run.
use Rattle.std.specs.Prelude.{◌≡◌, ℕ, suc, ◌+◌, ◌≤◌, ◌⊎◌, List, [], ◌∷◌, ◌++◌, length, Option, Some, None, IsTrue, slice_get}
use Rattle.s390x_base.specs.declared.trap.TrapKind.{TrapKind}
use Rattle.s390x_typed_steps.specs.Calls.{call_size}
use Rattle.s390x_typed_steps.specs.StepBody.{Calling}
use Rattle.s390x_typed_steps.specs.Steps.{CallingStep}
use Rattle.s390x_operations.specs.State.{Core, State, StoreEvent, core_after_writes, wrapping_add64, IsLoaded, is_within}
use Rattle.s390x_operations.specs.declared.stop.StopKind.{StopKind}
use Rattle.s390x_operations.specs.declared.stop.StopKind.TheVariants.{Operation as OperationStop}
use Rattle.s390x_machine.specs.Codes.{trap_code_at}
use Rattle.s390x_machine.specs.Machine.{Executed, Interrupted, Transition, Run, after_all, all_writes}
use Rattle.s390x_machine.specs.Typed.{Ending, Returned, Called, TailCalled, Trapped, DebugStopped, Position, At, Ended, TypedStep, Wrong, typed_store_event}
use Rattle.s390x_machine.specs.Layout.{Layout, InStep, step_address, block_address}

-- ---- the match

-- the transitions of all groups, one group after another
abbrev pub concatenation : List (List Transition) → List Transition
concatenation [] = []
concatenation (g ∷ gs) = g ++ concatenation gs

-- the state at a step's address
abbrev pub start : Layout → ℕ → Core → State
start L k c = record { core = c; address = step_address L k }

-- no transition stored anything or stopped
abbrev pub StoreNothing : List Transition → Type 0
StoreNothing [] = Unit {0}
StoreNothing (transition ∷ trace) = (transition.event ≡ Executed None) × StoreNothing trace

-- the last of these transitions stores this, or nothing where there is nothing to store; those before it store nothing, and none stops
pub record LastStores (x : Option StoreEvent) (g : List Transition) : Type 0 where
  pub before : List Transition
  pub last : Transition
  pub is : g ≡ before ++ last ∷ []
  pub nothing : StoreNothing before
  pub stores : last.event ≡ Executed x

abbrev pub HasNoBytes : Layout → ℕ → Type 0
HasNoBytes L k = L.offsets.step (suc k) ≡ L.offsets.step k

-- what step k does from a core, in these transitions: nothing where it has no bytes; else what it stores is stored in the last of them
abbrev pub Does : Layout → (k : ℕ) → Core → List Transition → Type 0
Does L k c g = (HasNoBytes L k × (g ≡ [])) ⊎ ((HasNoBytes L k → ⊥) × LastStores (typed_store_event L k (core_after_writes (all_writes g) c)) g)

-- where the machine stands when a step ends the run: at one of the step's bytes, about to stop; or behind a return, a call or a tail call, which took a transition
abbrev pub EndsAt : Layout → (k : ℕ) → Ending → List Transition → State → Type 0
EndsAt L k (Trapped n) g s = InStep L k s.address
EndsAt L k DebugStopped g s = InStep L k s.address
EndsAt L k _ g s = 1 ≤ length g

-- These transitions, at most four, are step k from a core at its address to a position and a core. Where it goes on, the machine has that core then, at the
-- address of the step that it goes on to
abbrev pub IsGroup : Layout → (k : ℕ) → Core → List Transition → Position → Core → Type 0
IsGroup L k c g (At j) t = (length g ≤ 4) × Does L k c g × (after_all (start L k c) g ≡ start L j t)
IsGroup L k c g (Ended e) t = (length g ≤ 4) × StoreNothing g × EndsAt L k e g (after_all (start L k c) g)

-- a typed run and its groups of transitions, one for each step; the group's writes come before the step
abbrev pub TypedRun : Layout → Position → Core → List (List Transition) → Position → Core → Type 0
TypedRun L position c [] position' t = (position' ≡ position) × (t ≡ c)
TypedRun L (Ended e) c (g ∷ gs) position' t = ⊥
TypedRun L (At k) c (g ∷ gs) position' t =
    (next : Position) × (mid : Core) × TypedStep L k (core_after_writes (all_writes g) c) next mid × IsGroup L k c g next mid × TypedRun L next mid gs position' t

-- step k isn't done: at most three transitions, from this state on, stored nothing and didn't stop, and the machine stands at one of the step's bytes
abbrev pub IsUnderWay : Layout → (k : ℕ) → State → List Transition → Type 0
IsUnderWay L k s rest = (length rest ≤ 3) × StoreNothing rest × InStep L k (after_all s rest).address

-- the next step is a stop that has this code
abbrev pub NextStops : Layout → TrapKind → State → List Transition → Type 0
NextStops L n s [] = ⊥
NextStops L n s (transition ∷ trace) = (kind : StopKind) × (transition.event ≡ Interrupted kind) × (trap_code_at L.image L.traps s.address kind ≡ Some n)

-- the next step is a stop of kind Operation, at an address of the image that has no code
abbrev pub NextDebugStops : Layout → State → List Transition → Type 0
NextDebugStops L s [] = ⊥
NextDebugStops L s (transition ∷ trace) = (transition.event ≡ Interrupted OperationStop) × IsTrue (is_within L.image s.address) × (trap_code_at L.image L.traps s.address OperationStop ≡ None)

-- how it ends: where the typed run stands, the machine's state there, and the rest of the machine's run
abbrev pub EndsMatch : Layout → Position → Core → State → List Transition → Type 0
EndsMatch L (At k) t s rest = (s ≡ start L k t) × (Wrong L k t ⊎ IsUnderWay L k s rest)
EndsMatch L (Ended (Returned a)) t s rest = s ≡ record { core = t; address = a }
EndsMatch L (Ended (Called a)) t s rest = s ≡ record { core = t; address = a }
EndsMatch L (Ended (TailCalled a)) t s rest = s ≡ record { core = t; address = a }
EndsMatch L (Ended (Trapped n)) t s rest = (s.core ≡ t) × NextStops L n s rest
EndsMatch L (Ended DebugStopped) t s rest = (s.core ≡ t) × NextDebugStops L s rest

-- The typed steps from step k allow the machine's run from a state: its first transitions fall into groups, one for each typed step, and the ends match
-- behind them. The typed run begins with the machine's own registers, code and memory
pub record Allowed (L : Layout) (k : ℕ) (s : State) (trace : List Transition) : Type 0 where
  pub groups : List (List Transition)
  pub rest : List Transition
  pub split : trace ≡ concatenation groups ++ rest
  pub position : Position
  pub core : Core
  pub run : TypedRun L (At k) s.core groups position core
  pub ends_match : EndsMatch L position core (after_all s (concatenation groups)) rest

-- ---- every run

-- Every machine run from an address, of any length, in every state in which the image lies in memory, is allowed by the typed steps from step k.
-- The transitions have others' writes before each step, so this is over every list of them
abbrev pub EveryRunFrom : Layout → (address k : ℕ) → Type 0
EveryRunFrom L a k =
    (c : Core) → IsLoaded L.image c.memory → (trace : List Transition) → Run L.image (record { core = c; address = a }) trace → Allowed L k (record { core = c; address = a }) trace

-- from a step's address, by the steps from it
abbrev pub EveryRun : Layout → ℕ → Type 0
EveryRun L k = EveryRunFrom L (step_address L k) k

-- the return place of a call: behind its machine instruction
abbrev pub return_address : Layout → (k : ℕ) → Calling → ℕ
return_address L k c = wrapping_add64 L.image.base (L.offsets.step k + call_size c.target)

-- where step k is a call, from its return place, by the steps behind it
abbrev pub EveryReturnRun : Layout → ℕ → Type 0
EveryReturnRun L k = (c : Calling) → slice_get L.steps k ≡ Some (CallingStep c) → EveryRunFrom L (return_address L k c) (suc k)

-- from a block's start, by the steps from its first one
abbrev pub EveryBlockRun : Layout → ℕ → Type 0
EveryBlockRun L b = EveryRunFrom L (block_address L b) (L.first_step b)
