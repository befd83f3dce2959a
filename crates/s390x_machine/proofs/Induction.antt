-- From each step alone to every run: the generic induction.
use Rattle.std.proofs.Common.{◌⊎◌, Bool, true, false, IsTrue, IsFalse, true≢false, append-nil, ◌≡◌, ℕ, zero, suc, ◌+◌, ◌<◌, ◌≤◌, inl, inr, List, [], ◌∷◌, ◌++◌, length, Option, Some, None, refl, sym, ap, ◌∙◌, subst, arith, append_assoc, length-append, slice_get}
use Rattle.s390x_operations.specs.State.{Core, State, Write, core_after_writes, wrapping_add64, IsLoaded, CodeImage, IsDisjoint}
use Rattle.s390x_operations.specs.Access.{stores_into}
use Rattle.s390x_operations.specs.Effects.{access}
use Rattle.s390x_typed_steps.specs.Steps.{Step}
use Rattle.s390x_machine.specs.Machine.{Transition, Run, after_all, all_writes}
use Rattle.s390x_machine.specs.StepKinds.{StepKind, Performs}
use Rattle.s390x_machine.specs.Typed.{Ending, Ended, At, touches_image, TypedStep, Wrong, kind_of_step, kind_at, store_event_of_kind, KindWrong}
use Rattle.s390x_machine.specs.Match.{HasNoBytes, IsGroup, IsUnderWay, concatenation, start, EndsMatch, Allowed, EveryRun}
use Rattle.s390x_machine.specs.OneStep.{OneStep, here, on, StepHolds, Runs, waits, silent, goes, stops, ends, stuck, StepRuns}
use Rattle.s390x_machine.specs.Layout.{Layout, InStep}
use Rattle.s390x_machine.proofs.Frame.{apart_of}

pub run_after : (L : Layout) (s : State) (g rest : List Transition) → Run L.image s (g ++ rest) → Run L.image (after_all s g) rest
run_after L s [] rest r = r
run_after L s (x ∷ g) rest r = run_after L x.after g rest r.1

pub after_append : (s : State) (g h : List Transition) → after_all s (g ++ h) ≡ after_all (after_all s g) h
after_append s [] h = refl
after_append s (x ∷ g) h = after_append x.after g h

-- a step, and what is allowed after it
step_then : (L : Layout) (k : ℕ) (c : Core) (trace g rest : List Transition) → trace ≡ g ++ rest → (j : ℕ) (t : Core) → TypedStep L k (core_after_writes (all_writes g) c) (At j) t → IsGroup L k c g (At j) t → Allowed L j (start L j t) rest → Allowed L k (start L k c) trace
step_then L k c trace g rest split j t step group a = record {
  groups = g ∷ a.groups;
  rest = a.rest;
  split = split ∙ ap (λ l. g ++ l) a.split ∙ sym (append_assoc g (concatenation a.groups) a.rest);
  position = a.position;
  core = a.core;
  run = (At j, t, step, group, a.run);
  ends_match = subst (λ s. EndsMatch L a.position a.core s a.rest) (sym (after_append (start L k c) g (concatenation a.groups) ∙ ap (λ s. after_all s (concatenation a.groups)) group.2)) a.ends_match;
}

combine : (L : Layout) (k : ℕ) (c : Core) (trace : List Transition) → Run L.image (start L k c) trace → OneStep L k c trace →
    ((j : ℕ) (t : Core) → IsLoaded L.image t.memory → (rest : List Transition) → Run L.image (start L j t) rest → length rest < length trace → Allowed L j (start L j t) rest) →
    ((t : Core) → IsLoaded L.image t.memory → (rest : List Transition) → Run L.image (start L (suc k) t) rest → length rest ≤ length trace → suc k ≤ length L.steps → Allowed L (suc k) (start L (suc k) t) rest) →
    Allowed L k (start L k c) trace
combine L k c trace r (here a le) shorter without = a
combine L k c trace r (on g rest split j t step group is_loaded (inl pos)) shorter without =
    let r' = subst (λ s. Run L.image s rest) group.2 (run_after L (start L k c) g rest (subst (λ l. Run L.image (start L k c) l) split r)) in
    let lt : length rest < length trace = omega (arith, ap length split, length-append g rest) in
    step_then L k c trace g rest split j t step group (shorter j t is_loaded rest r' lt)
combine L k c trace r (on g rest split j t step group is_loaded (inr e)) shorter without =
    let r' = subst (λ s. Run L.image s rest) group.2 (run_after L (start L k c) g rest (subst (λ l. Run L.image (start L k c) l) split r)) in
    let le : length rest ≤ length trace = omega (arith, ap length split, length-append g rest) in
    step_then L k c trace g rest split j t step group (subst (λ i. Allowed L i (start L i t) rest) (sym e.0) (without t is_loaded rest (subst (λ i. Run L.image (start L i t) rest) e.0 r') le e.1))

module _ (L : Layout) (holds : (k : ℕ) → StepHolds L k) where
  inner : (n : ℕ) → ((j : ℕ) (t : Core) → IsLoaded L.image t.memory → (rest : List Transition) → Run L.image (start L j t) rest → length rest < n → Allowed L j (start L j t) rest) → (d k : ℕ) (c : Core) → IsLoaded L.image c.memory → (trace : List Transition) → Run L.image (start L k c) trace → length trace ≤ n → length L.steps ≤ k + d → Allowed L k (start L k c) trace
  inner n shorter zero k c is_loaded trace r le far =
      combine L k c trace r (holds k c is_loaded trace r) (λ j t l rest q lt. shorter j t l rest q (omega arith)) (λ t l rest q le' below. absurd (omega arith))
  inner n shorter (suc d) k c is_loaded trace r le far =
      combine L k c trace r (holds k c is_loaded trace r) (λ j t l rest q lt. shorter j t l rest q (omega arith)) (λ t l rest q le' below. inner n shorter d (suc k) t l rest q (omega arith) (omega arith))

  outer : (n k : ℕ) (c : Core) → IsLoaded L.image c.memory → (trace : List Transition) → Run L.image (start L k c) trace → length trace < n → Allowed L k (start L k c) trace
  outer zero k c is_loaded trace r lt = absurd (omega arith)
  outer (suc n) k c is_loaded trace r lt = inner n (outer n) (length L.steps) k c is_loaded trace r (omega arith) (omega arith)

  pub every_run_from : (k : ℕ) → EveryRun L k
  every_run_from k c is_loaded trace r = outer (suc (length trace)) k c is_loaded trace r (omega arith)

-- past the last step the typed run is wrong
past_end : (L : Layout) (k : ℕ) (c : Core) (trace : List Transition) → slice_get L.steps k ≡ None → OneStep L k c trace
past_end L k c trace e = here (record {
  groups = [];
  rest = trace;
  split = refl;
  position = At k;
  core = c;
  run = (refl, refl);
  ends_match = (refl, inl (subst (λ o. KindWrong L (kind_of_step L o) c) (sym e) tt));
}) (omega arith)

by_instruction : (L : Layout) → ((k : ℕ) (i : Step) → slice_get L.steps k ≡ Some i → StepHolds L k) → (k : ℕ) (o : Option Step) → slice_get L.steps k ≡ o → StepHolds L k
by_instruction L holds k None e c is_loaded trace r = past_end L k c trace e
by_instruction L holds k (Some i) e c is_loaded trace r = holds k i e c is_loaded trace r

-- the same, of a proof for each instruction
pub trace_of : (L : Layout) → ((k : ℕ) (i : Step) → slice_get L.steps k ≡ Some i → StepHolds L k) → (k : ℕ) → EveryRun L k
trace_of L holds k = every_run_from L (λ j. by_instruction L holds j (slice_get L.steps j) refl) k

-- ---- a step by itself, from what the machine does

abbrev pub form_into : CodeImage → Option StepKind → Core → Bool
form_into image (Some (Performs needs operation code)) c = stores_into image (access (operation c.registers).effect)
form_into image _ c = false

wrong_into : (L : Layout) (o : Option StepKind) (c : Core) → IsTrue (form_into L.image o c) → KindWrong L o c
wrong_into L (Some (Performs needs operation code)) c e = touches_image e
wrong_into L (Some _) c e = absurd (true≢false (sym e))
wrong_into L None c e = tt

pub apart_form : (image : CodeImage) (o : Option StepKind) (c : Core) (ws : List Write) → IsFalse (form_into image o c) → IsDisjoint image (store_event_of_kind o (core_after_writes ws c))
apart_form image (Some (Performs needs operation code)) c ws e = apart_of image (access (operation c.registers).effect) (core_after_writes ws c).memory e
apart_form image (Some _) c ws e = tt
apart_form image None c ws e = tt

-- a step one of whose bytes is addressed has some
pub some_bytes_in : (L : Layout) (k : ℕ) {p : ℕ} → InStep L k p → HasNoBytes L k → ⊥
some_bytes_in L k at none = absurd (omega (arith, at.above, at.below, none))

stays_here : (L : Layout) (k : ℕ) (c : Core) (trace : List Transition) → Wrong L k c ⊎ IsUnderWay L k (start L k c) trace → OneStep L k c trace
stays_here L k c trace w = here (record {
  groups = [];
  rest = trace;
  split = refl;
  position = At k;
  core = c;
  run = (refl, refl);
  ends_match = (refl, w);
}) (omega arith)

stays_ended : (L : Layout) (k : ℕ) (c : Core) (g rest : List Transition) (e : Ending) (x : Core) → TypedStep L k (core_after_writes (all_writes g) c) (Ended e) x → IsGroup L k c g (Ended e) x → EndsMatch L (Ended e) x (after_all (start L k c) g) rest → OneStep L k c (g ++ rest)
stays_ended L k c g rest e x step group ends_match = here (record {
  groups = g ∷ [];
  rest = rest;
  split = ap (λ l. l ++ rest) (sym (append-nil g));
  position = Ended e;
  core = x;
  run = (Ended e, x, step, group, (refl, refl));
  ends_match = subst (λ l. EndsMatch L (Ended e) x (after_all (start L k c) l) rest) (sym (append-nil g)) ends_match;
}) (omega arith)

weaker : (L : Layout) (k : ℕ) (c : Core) (trace : List Transition) → IsLoaded L.image c.memory → IsFalse (form_into L.image (kind_at L k) c) → Runs L k c trace → OneStep L k c trace
weaker L k c trace is_loaded out (waits few quiet at) = stays_here L k c trace (inr (few, quiet, at))
weaker L k c trace is_loaded out (silent step below none) =
    on [] trace refl (suc k) c step (omega arith, inl (none, refl), ap (λ n. record { core = c; address = wrapping_add64 L.image.base n }) (sym none)) is_loaded (inr (refl, below))
weaker L k c trace is_loaded out (goes h rest t split few some nothing j x step e m lands l) =
    let longer = length-append h (t ∷ []) in
    on (h ++ t ∷ []) rest (split ∙ sym (append_assoc h (t ∷ []) rest)) j x step
    (omega (arith, few, longer), inr (some, record { before = h; last = t; is = refl; nothing = nothing; stores = e }), after_append (start L k c) h (t ∷ []) ∙ lands)
    (l (apart_form L.image (kind_at L k) c (all_writes (h ++ t ∷ [])) out)) (inl (omega (arith, longer)))
weaker L k c trace is_loaded out (stops h rest t kind split quiet e w) = stays_here L k c trace (inl w)
weaker L k c trace is_loaded out (ends g rest split e x step group ends_match) = subst (λ l. OneStep L k c l) (sym split) (stays_ended L k c g rest e x step group ends_match)
weaker L k c trace is_loaded out (stuck w form) = stays_here L k c trace (inl w)

unless_into : (L : Layout) (k : ℕ) (c : Core) (trace : List Transition) → IsLoaded L.image c.memory → Runs L k c trace → (b : Bool) → form_into L.image (kind_at L k) c ≡ b → OneStep L k c trace
unless_into L k c trace is_loaded r true e = stays_here L k c trace (inl (wrong_into L (kind_at L k) c e))
unless_into L k c trace is_loaded r false e = weaker L k c trace is_loaded e r

pub one_step : (L : Layout) (k : ℕ) → StepRuns L k → StepHolds L k
one_step L k runs c is_loaded trace run = unless_into L k c trace is_loaded (runs c is_loaded trace run) _ refl
