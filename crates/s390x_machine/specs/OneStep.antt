-- What a single step does, from which every run follows: the statement names none of this, but the laws of each step do.
use Rattle.std.specs.Prelude.{◌≡◌, ℕ, suc, ◌≤◌, ◌⊎◌, List, [], ◌∷◌, ◌++◌, length, Option, Some, None}
use Rattle.s390x_operations.specs.State.{Core, core_after_writes, IsLoaded, IsDisjoint}
use Rattle.s390x_operations.specs.declared.stop.StopKind.{StopKind}
use Rattle.s390x_machine.specs.Machine.{Executed, Interrupted, Transition, after_writes, Run, after_all, all_writes}
use Rattle.s390x_machine.specs.StepKinds.{StepKind, GoesByAddress, GoesByTable}
use Rattle.s390x_machine.specs.Typed.{Ending, At, Ended, TypedStep, Wrong, typed_store_event, kind_at}
use Rattle.s390x_machine.specs.Match.{StoreNothing, HasNoBytes, IsGroup, start, EndsMatch, Allowed}
use Rattle.s390x_machine.specs.Layout.{Layout, InStep}

-- a machine run from a step's address is allowed by at most that step, or begins with a group of transitions that is that step
pub data OneStep (L : Layout) (k : ℕ) (c : Core) (trace : List Transition) : Type 0 where
  here : (a : Allowed L k (start L k c) trace) → length a.groups ≤ 1 → OneStep L k c trace
  on : (g rest : List Transition) → trace ≡ g ++ rest → (j : ℕ) (t : Core) → TypedStep L k (core_after_writes (all_writes g) c) (At j) t → IsGroup L k c g (At j) t → IsLoaded L.image t.memory → (1 ≤ length g) ⊎ ((j ≡ suc k) × (suc k ≤ length L.steps)) → OneStep L k c trace

-- every machine run from a step's address, in every state in which the image lies in memory, is as `OneStep` says
abbrev pub StepHolds : Layout → ℕ → Type 0
StepHolds L k = (c : Core) → IsLoaded L.image c.memory → (trace : List Transition) → Run L.image (start L k c) trace → OneStep L k c trace

-- a step that can lose its way: past the last one, by an address or by a table
abbrev pub Loses : Option StepKind → Type 0
Loses None = Unit {0}
Loses (Some (GoesByAddress r targets)) = Unit {0}
Loses (Some (GoesByTable index mask other targets)) = Unit {0}
Loses (Some _) = ⊥

-- what the machine does from a step's address, with every store and stop told: stronger than `OneStep`
pub data Runs (L : Layout) (k : ℕ) (c : Core) (trace : List Transition) : Type 0 where
  waits : length trace ≤ 3 → StoreNothing trace → InStep L k (after_all (start L k c) trace).address → Runs L k c trace
  silent : TypedStep L k c (At (suc k)) c → suc k ≤ length L.steps → HasNoBytes L k → Runs L k c trace
  goes : (h rest : List Transition) (transition : Transition) → trace ≡ h ++ transition ∷ rest → length h ≤ 3 → (HasNoBytes L k → ⊥) → StoreNothing h → (j : ℕ) (t : Core) →
      TypedStep L k (core_after_writes (all_writes (h ++ transition ∷ [])) c) (At j) t → transition.event ≡ Executed (typed_store_event L k (core_after_writes (all_writes (h ++ transition ∷ [])) c)) →
      (after_writes (after_all (start L k c) h) transition).core.memory ≡ (core_after_writes (all_writes (h ++ transition ∷ [])) c).memory → transition.after ≡ start L j t →
      (IsDisjoint L.image (typed_store_event L k (core_after_writes (all_writes (h ++ transition ∷ [])) c)) → IsLoaded L.image t.memory) → Runs L k c trace
  stops : (h rest : List Transition) (transition : Transition) (kind : StopKind) → trace ≡ h ++ transition ∷ rest → StoreNothing h → transition.event ≡ Interrupted kind → Wrong L k c → Runs L k c trace
  ends : (g rest : List Transition) → trace ≡ g ++ rest → (e : Ending) (t : Core) → TypedStep L k (core_after_writes (all_writes g) c) (Ended e) t → IsGroup L k c g (Ended e) t →
      EndsMatch L (Ended e) t (after_all (start L k c) g) rest → Runs L k c trace
  stuck : Wrong L k c → Loses (kind_at L k) → Runs L k c trace

-- every machine run from a step's address, in every state in which the image lies in memory, is as `Runs` says
abbrev pub StepRuns : Layout → ℕ → Type 0
StepRuns L k = (c : Core) → IsLoaded L.image c.memory → (trace : List Transition) → Run L.image (start L k c) trace → Runs L k c trace
