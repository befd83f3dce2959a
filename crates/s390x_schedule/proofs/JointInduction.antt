-- From each step alone to every joint run.
use Rattle.std.proofs.Common.{◌≡◌, ℕ, zero, suc, ◌+◌, ◌%◌, ◌^◌, ◌<◌, ◌≤◌, ◌⊎◌, inl, inr, List, [], ◌∷◌, ◌++◌, length, Option, Some, None, Bool, true, false, refl, sym, ap, ◌∙◌, subst, arith, append-nil, append_assoc, length-append, slice_get}
use Rattle.s390x_typed_steps.specs.Steps.{Step}
use Rattle.s390x_operations.specs.State.{Core, State, CodeImage, core_after_writes, wrapping_add64, IsLoaded}
use Rattle.s390x_machine.specs.Layout.{Layout, step_address}
use Rattle.s390x_machine.specs.Machine.{Transition, Run, after_all, all_writes}
use Rattle.s390x_machine.specs.Match.{concatenation, start, StoreNothing, HasNoBytes, EndsAt, IsGroup, IsUnderWay, EndsMatch}
use Rattle.s390x_machine.specs.OneStep.{Runs, waits, silent, goes, stops, ends, stuck}
use Rattle.s390x_machine.specs.Typed.{Ending, Returned, Called, TailCalled, Trapped, DebugStopped, Position, At, Ended, TypedStep, kind_of_step, kind_at}
use Rattle.s390x_machine.proofs.Calls.{returns_to}
use Rattle.s390x_machine.proofs.Standing.{block_at}
use Rattle.s390x_machine.proofs.Induction.{after_append, form_into, apart_form}
use Rattle.s390x_machine.proofs.Instructions.{step_runs_placed}
use Rattle.s390x_schedule.specs.Schedule.{LeavesImage}
use Rattle.s390x_schedule.specs.Joint.{AreMembers, Running, Finished, GoesOn, Continues, KindWrongIn, WrongIn}
use Rattle.s390x_schedule.specs.JointMatch.{JointEndsMatch, JointlyAllowed, EveryJointRun, EveryJointBlockRun, EveryJointReturnRun, EveryJointRunFrom}
use Rattle.s390x_schedule.proofs.Parts.{loaded_part}
use Rattle.s390x_schedule.proofs.Loaded.{run_part, run_front, run_behind, loaded_behind, loaded_behind_all, wrong_into, wrong_in_whole}
use Rattle.s390x_schedule.proofs.Continuing.{goes_on_or_ends}

-- A machine run from the address of a member's step is allowed by at most that step; or the step has no bytes and goes on to the next one; or the run begins
-- with some transitions that are that step, and goes on at a step of a member
data JointOneStep (whole : CodeImage) (members : List Layout) (m : ℕ) (L : Layout) (k : ℕ) (c : Core) (trace : List Transition) : Type 0 where
  here : JointlyAllowed whole members m k (start L k c) trace → JointOneStep whole members m L k c trace
  idle : TypedStep L k c (At (suc k)) c → HasNoBytes L k → suc k ≤ length L.steps → JointOneStep whole members m L k c trace
  on : (g rest : List Transition) → trace ≡ g ++ rest → 1 ≤ length g → (own : Position) (t : Core) → TypedStep L k (core_after_writes (all_writes g) c) own t → IsGroup L k c g own t →
      (n j : ℕ) (next : Layout) → slice_get members n ≡ Some next → Continues members m own (Running n j) → after_all (start L k c) g ≡ start next j t → IsLoaded whole t.memory → JointOneStep whole members m L k c trace

-- a step, and what is allowed after it
step_then : (whole : CodeImage) (members : List Layout) (m : ℕ) (L : Layout) → slice_get members m ≡ Some L → (k : ℕ) (c : Core) (trace g rest : List Transition) → trace ≡ g ++ rest → (own : Position) (t : Core) →
    TypedStep L k (core_after_writes (all_writes g) c) own t → IsGroup L k c g own t → (n j : ℕ) (next : Layout) → slice_get members n ≡ Some next → Continues members m own (Running n j) → after_all (start L k c) g ≡ start next j t →
    JointlyAllowed whole members n j (start next j t) rest → JointlyAllowed whole members m k (start L k c) trace
step_then whole members m L listed k c trace g rest split own t step group n j next at continues lands a = record {
  groups = g ∷ a.groups;
  rest = a.rest;
  split = split ∙ ap (λ l. g ++ l) a.split ∙ sym (append_assoc g (concatenation a.groups) a.rest);
  position = a.position;
  core = a.core;
  run = (Running n j, t, record { layout = L; listed = listed; own = own; steps = step; continues = continues }, group, (next, at, lands), a.run);
  ends_match = subst (λ s. JointEndsMatch whole members a.position a.core s a.rest) (sym (after_append (start L k c) g (concatenation a.groups) ∙ ap (λ s. after_all s (concatenation a.groups)) lands)) a.ends_match;
}

-- the run stays at a step
stays : (whole : CodeImage) (members : List Layout) (m : ℕ) (L : Layout) → slice_get members m ≡ Some L → (k : ℕ) (c : Core) (trace : List Transition) → WrongIn whole L k c ⊎ IsUnderWay L k (start L k c) trace → JointlyAllowed whole members m k (start L k c) trace
stays whole members m L listed k c trace w = record {
  groups = [];
  rest = trace;
  split = refl;
  position = Running m k;
  core = c;
  run = (refl, refl);
  ends_match = (L, listed, refl, w);
}

-- the run ends with a step
finishes : (whole : CodeImage) (members : List Layout) (m : ℕ) (L : Layout) → slice_get members m ≡ Some L → (k : ℕ) (c : Core) (trace g rest : List Transition) → trace ≡ g ++ rest → (e : Ending) (t : Core) →
    TypedStep L k (core_after_writes (all_writes g) c) (Ended e) t → IsGroup L k c g (Ended e) t → ((n j : ℕ) → GoesOn members e n j → ⊥) → EndsMatch L (Ended e) t (after_all (start L k c) g) rest → JointlyAllowed whole members m k (start L k c) trace
finishes whole members m L listed k c trace g rest split e t step group nowhere ends_match = record {
  groups = g ∷ [];
  rest = rest;
  split = split ∙ ap (λ l. l ++ rest) (sym (append-nil g));
  position = Finished m e;
  core = t;
  run = (Finished m e, t, record { layout = L; listed = listed; own = Ended e; steps = step; continues = (refl, refl, nowhere) }, group, tt, (refl, refl));
  ends_match = (L, listed, subst (λ l. EndsMatch L (Ended e) t (after_all (start L k c) l) rest) (sym (append-nil g)) ends_match);
}

-- behind a call, a tail call or a return at least one transition was taken
took_some : (members : List Layout) (L : Layout) (k : ℕ) (e : Ending) (g : List Transition) (s : State) (n j : ℕ) → GoesOn members e n j → EndsAt L k e g s → 1 ≤ length g
took_some members L k (Trapped code) g s n j leads at = absurd leads
took_some members L k DebugStopped g s n j leads at = absurd leads
took_some members L k e g s n j leads at = at

module _ (whole : CodeImage) (members : List Layout) (are : AreMembers whole members) where
  -- a member's start is its first step's address
  start_of : (m : ℕ) (L : Layout) → slice_get members m ≡ Some L → L.image.base ≡ step_address L 0
  start_of m L listed =
      let x = are m L listed in
      let below : L.image.base < 2 ^ 64 = omega (arith, x.placed.fits, x.some) in
      let same : L.image.base + L.offsets.step 0 ≡ L.image.base = omega (arith, x.placed.begins) in
      sym (ap (λ n. n % 2 ^ 64) same ∙ small L.image.base below)
    where
      small : (a : ℕ) → a < 2 ^ 64 → a % 2 ^ 64 ≡ a
      small a lt = omega arith

  -- where the run goes on, the machine stands at the address of that step
  stands : (L : Layout) (e : Ending) (t : Core) (s : State) (rest : List Transition) (n j : ℕ) → EndsMatch L (Ended e) t s rest → GoesOn members e n j → (next : Layout) × (slice_get members n ≡ Some next) × (s ≡ start next j t)
  stands L (Called a) t s rest n j at leads = let x = leads.0 in (x.layout, x.listed, at ∙ ap (λ p. record { core = t; address = p }) (x.is ∙ start_of n x.layout x.listed ∙ ap (λ i. step_address x.layout i) (sym leads.1)))
  stands L (TailCalled a) t s rest n j at leads = let x = leads.0 in (x.layout, x.listed, at ∙ ap (λ p. record { core = t; address = p }) (x.is ∙ start_of n x.layout x.listed ∙ ap (λ i. step_address x.layout i) (sym leads.1)))
  stands L (Returned a) t s rest n j at leads =
      let x = leads.1 in
      let all = (are n x.layout x.listed).placed in
      (x.layout, x.listed, at ∙ ap (λ p. record { core = t; address = p }) (x.is ∙ returns_to x.layout all leads.0 x.calling x.calls ∙ ap (λ i. step_address x.layout i) (sym leads.2)))
  stands L (Trapped code) t s rest n j at leads = absurd leads
  stands L DebugStopped t s rest n j at leads = absurd leads

  module _ (m : ℕ) (L : Layout) (listed : slice_get members m ≡ Some L) (k : ℕ) (c : Core) (trace : List Transition) (loaded : IsLoaded whole c.memory) (run : Run whole (start L k c) trace) where
    stay : WrongIn whole L k c ⊎ IsUnderWay L k (start L k c) trace → JointOneStep whole members m L k c trace
    stay w = here (stays whole members m L listed k c trace w)

    -- a step that ends the member's own run
    ended : (g rest : List Transition) → trace ≡ g ++ rest → (e : Ending) (t : Core) → TypedStep L k (core_after_writes (all_writes g) c) (Ended e) t → IsGroup L k c g (Ended e) t → EndsMatch L (Ended e) t (after_all (start L k c) g) rest →
        ((n j : ℕ) × GoesOn members e n j) ⊎ ((n j : ℕ) → GoesOn members e n j → ⊥) → JointOneStep whole members m L k c trace
    ended g rest split e t step group ends_match (inr nowhere) = here (finishes whole members m L listed k c trace g rest split e t step group nowhere ends_match)
    ended g rest split e t step group ends_match (inl x) =
        let s = stands L e t (after_all (start L k c) g) rest x.0 x.1 ends_match x.2 in
        let first : Run whole (start L k c) g = run_front whole (start L k c) g rest (subst (λ l. Run whole (start L k c) l) split run) in
        let still : IsLoaded whole (after_all (start L k c) g).core.memory = loaded_behind_all whole (start L k c) g loaded first group.1 in
        on g rest split (took_some members L k e g (after_all (start L k c) g) x.0 x.1 x.2 group.2) (Ended e) t step group x.0 x.1 s.0 s.1 x.2 s.2 (subst (λ (z : State). IsLoaded whole z.core.memory) s.2 still)

    -- a step that goes on in the member, and stores nothing into the whole image
    gone : (h rest : List Transition) (t : Transition) → trace ≡ h ++ t ∷ rest → StoreNothing h → (j : ℕ) (x : Core) → TypedStep L k (core_after_writes (all_writes (h ++ t ∷ [])) c) (At j) x → IsGroup L k c (h ++ t ∷ []) (At j) x →
        LeavesImage whole t.event → t.after ≡ start L j x → JointOneStep whole members m L k c trace
    gone h rest t split nothing j x step group leaves lands =
        let s = start L k c in
        let all : Run whole s (h ++ t ∷ rest) = subst (λ l. Run whole s l) split run in
        let first : Run whole s h = run_front whole s h (t ∷ rest) all in
        let still = loaded_behind_all whole s h loaded first nothing in
        let after = loaded_behind whole (after_all s h) t still (run_behind whole s h (t ∷ rest) all).0 leaves in
        on (h ++ t ∷ []) rest (split ∙ sym (append_assoc h (t ∷ []) rest)) (omega (arith, length-append h (t ∷ []))) (At j) x step group m j L listed refl (after_append s h (t ∷ []) ∙ lands) (subst (λ (z : State). IsLoaded whole z.core.memory) lands after)

    of_runs : Runs L k c trace → JointOneStep whole members m L k c trace
    of_runs (waits few quiet at) = stay (inr (few, quiet, at))
    of_runs (silent step below none) = idle step none below
    of_runs (goes h rest t split few some nothing j x step event memory lands keeps) = unless (form_into whole (kind_at L k) c) refl
      where
        longer : length (h ++ t ∷ []) ≡ length h + length (t ∷ [])
        longer = length-append h (t ∷ [])

        group : IsGroup L k c (h ++ t ∷ []) (At j) x
        group = (omega (arith, few, longer), inr (some, record { before = h; last = t; is = refl; nothing = nothing; stores = event }), after_append (start L k c) h (t ∷ []) ∙ lands)

        unless : (b : Bool) → form_into whole (kind_at L k) c ≡ b → JointOneStep whole members m L k c trace
        unless true e = stay (inl (wrong_into whole L (kind_at L k) c e))
        unless false e = gone h rest t split nothing j x step group (subst (λ v. LeavesImage whole v) (sym event) (apart_form whole (kind_at L k) c (all_writes (h ++ t ∷ [])) e)) lands
    of_runs (stops h rest t kind split quiet e w) = stay (inl (wrong_in_whole whole L (are m L listed).part (kind_at L k) c w))
    of_runs (ends g rest split e t step group ends_match) = ended g rest split e t step group ends_match (goes_on_or_ends members e)
    of_runs (stuck w form) = stay (inl (wrong_in_whole whole L (are m L listed).part (kind_at L k) c w))

    -- past the last step the joint run is wrong
    holds_at : (o : Option Step) → slice_get L.steps k ≡ o → JointOneStep whole members m L k c trace
    holds_at None e = stay (inl (subst (λ o. KindWrongIn whole L (kind_of_step L o) c) (sym e) tt))
    holds_at (Some s) e =
        let x = are m L listed in
        of_runs (step_runs_placed L x.placed k s e c (loaded_part x.part c.memory loaded) trace (run_part x.part (start L k c) trace run))

  one_joint_step : (m : ℕ) (L : Layout) → slice_get members m ≡ Some L → (k : ℕ) (c : Core) (trace : List Transition) → IsLoaded whole c.memory → Run whole (start L k c) trace → JointOneStep whole members m L k c trace
  one_joint_step m L listed k c trace loaded run = holds_at m L listed k c trace loaded run (slice_get L.steps k) refl

  -- what is allowed of all shorter runs, from any step of any member
  abbrev Shorter : ℕ → Type 0
  Shorter n = (m : ℕ) (L : Layout) → slice_get members m ≡ Some L → (k : ℕ) (c : Core) → IsLoaded whole c.memory → (trace : List Transition) → Run whole (start L k c) trace → length trace < n → JointlyAllowed whole members m k (start L k c) trace

  combine : (m : ℕ) (L : Layout) → slice_get members m ≡ Some L → (k : ℕ) (c : Core) (trace : List Transition) → IsLoaded whole c.memory → Run whole (start L k c) trace → JointOneStep whole members m L k c trace → Shorter (length trace) →
      (suc k ≤ length L.steps → Run whole (start L (suc k) c) trace → JointlyAllowed whole members m (suc k) (start L (suc k) c) trace) → JointlyAllowed whole members m k (start L k c) trace
  combine m L listed k c trace loaded run (here a) shorter next = a
  combine m L listed k c trace loaded run (idle step none below) shorter next =
      let same : start L k c ≡ start L (suc k) c = ap (λ n. record { core = c; address = wrapping_add64 L.image.base n }) (sym none) in
      step_then whole members m L listed k c trace [] trace refl (At (suc k)) c step (omega arith, inl (none, refl), same) m (suc k) L listed refl same (next below (subst (λ s. Run whole s trace) same run))
  combine m L listed k c trace loaded run (on g rest split some own t step group n j next at continues lands still) shorter _ =
      let after = subst (λ s. Run whole s rest) lands (run_behind whole (start L k c) g rest (subst (λ l. Run whole (start L k c) l) split run)) in
      let less : length rest < length trace = omega (arith, some, ap length split, length-append g rest) in
      step_then whole members m L listed k c trace g rest split own t step group n j next at continues lands (shorter n next at j t still rest after less)

  -- along the member's steps without bytes, of which at most d are left
  along : (d m : ℕ) (L : Layout) → slice_get members m ≡ Some L → (k : ℕ) (c : Core) → IsLoaded whole c.memory → (trace : List Transition) → Run whole (start L k c) trace → Shorter (length trace) → length L.steps ≤ k + d → JointlyAllowed whole members m k (start L k c) trace
  along zero m L listed k c loaded trace run shorter far = combine m L listed k c trace loaded run (one_joint_step m L listed k c trace loaded run) shorter (λ below next. absurd (omega arith))
  along (suc d) m L listed k c loaded trace run shorter far =
      combine m L listed k c trace loaded run (one_joint_step m L listed k c trace loaded run) shorter (λ below next. along d m L listed (suc k) c loaded trace next shorter (omega arith))

  below : (n : ℕ) → Shorter n
  below zero m L listed k c loaded trace run less = absurd (omega arith)
  below (suc n) m L listed k c loaded trace run less =
      along (length L.steps) m L listed k c loaded trace run (λ m' L' listed' k' c' loaded' trace' run' less'. below n m' L' listed' k' c' loaded' trace' run' (omega arith)) (omega arith)

  pub joint_runs : EveryJointRun whole members
  joint_runs m L listed k c loaded trace run = below (suc (length trace)) m L listed k c loaded trace run (omega arith)

  pub joint_block_runs : EveryJointBlockRun whole members
  joint_block_runs m L listed b is = subst (λ p. EveryJointRunFrom whole members p m (L.first_step b)) (sym (block_at L (are m L listed).placed b is)) (joint_runs m L listed (L.first_step b))

  pub joint_return_runs : EveryJointReturnRun whole members
  joint_return_runs m L listed k c calls = subst (λ p. EveryJointRunFrom whole members p m (suc k)) (sym (returns_to L (are m L listed).placed k c calls)) (joint_runs m L listed (suc k))
