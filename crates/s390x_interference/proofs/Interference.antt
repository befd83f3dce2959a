-- A run of a retry loop stores at most once, and what it stores belongs to what it found.
use Rattle.std.proofs.Common.{◌≡◌, ℕ, zero, suc, ◌+◌, ◌-◌, ◌<◌, ◌≤◌, List, [], ◌∷◌, ◌++◌, length, Option, Some, None, Bool, true, false, cond, ◌==◌, IsTrue, IsFalse, inl, inr, ◌⊎◌, refl, sym, ap, ◌∙◌, subst, arith, append_assoc, append-nil, length-append, true≢false, eqb-true}
use Rattle.s390x_base.specs.Regs.{number_of}
use Rattle.s390x_base.specs.declared.trap.TrapKind.{TrapKind}
use Rattle.s390x_operations.specs.State.{Registers, Core, State, StoreEvent, core_after_writes, IsLoaded, IsDisjoint, number_at, wrapping_add64}
use Rattle.s390x_operations.specs.Access.{store_event, store_event_at}
use Rattle.s390x_operations.specs.Bits.{bytes}
use Rattle.s390x_operations.specs.Effects.{access, is_selected, MayExecute}
use Rattle.s390x_operations.specs.Values.{width_of}
use Rattle.s390x_operations.specs.declared.stop.ConditionCode.TheVariants.{Code0, Code1}
use Rattle.s390x_operations.specs.declared.stop.StopKind.{StopKind}
use Rattle.s390x_machine.specs.CodeAt.{AllCodeAt}
use Rattle.s390x_machine.specs.Layout.{Layout, step_address, InStep}
use Rattle.s390x_machine.specs.Machine.{Event, Executed, Interrupted, Transition, after_writes, Run, after_all, all_writes}
use Rattle.s390x_machine.specs.Match.{concatenation, start, StoreNothing, HasNoBytes, IsGroup, TypedRun, NextStops, EndsMatch}
use Rattle.s390x_machine.specs.OneStep.{Runs, waits, silent, goes, stops, ends, stuck, Loses}
use Rattle.s390x_machine.specs.Operands.{value_in}
use Rattle.s390x_machine.specs.StepKinds.{Leads, Unsupported}
use Rattle.s390x_machine.specs.Storage.{operand_address}
use Rattle.s390x_machine.specs.Typed.{At, Ended, Trapped, loosen, KindStep, KindWrong, TypedStep, kind_at, kind_of_step, store_event_of_kind, typed_store_event}
use Rattle.s390x_machine.proofs.Induction.{run_after, after_append}
use Rattle.s390x_machine.proofs.Instructions.{step_runs_placed}
use Rattle.s390x_machine.proofs.RegisterNumbers.{small_mask}
use Rattle.s390x_machine.proofs.Standing.{step_at}
use Rattle.s390x_schedule.specs.Schedule.{Goes, LeavesImage}
use Rattle.s390x_interference.specs.Retry.{Retry, swap_size, end_of, is_in_loop, stores_of, IsExecuted, IsSuccess, EndsBySwap, EndsByBreak, Swapped, StoresByItsSwap}
use Rattle.s390x_interference.proofs.Branched.{Branched, none_yet, one_transition, loop_branched}
use Rattle.s390x_interference.proofs.Members.{WorkStep, MemberStep, works, breaks, member_step}
use Rattle.s390x_interference.proofs.Places.{back_strict, member_below, in_step_not_end, not_back, member_not_end, outside, not_end, in_step_not_back, end_not_back}
use Rattle.s390x_interference.proofs.Swap.{swapping, SwapKind, swap_kind, unaddressed, operation_goes, operation_ends}
use Rattle.s390x_interference.proofs.Traces.{stores_append, quiet_stores, stores_none, first_stores, concatenated_snoc, typed_snoc, StopLast, TraceLeavesImage, stop_append, leaves_append, stop_is_last, transition_leaves}

-- every transition begins in the loop
abbrev pub Stays : (L : Layout) → Retry L → State → List Transition → Type 0
Stays L R s [] = Unit {0}
Stays L R s (t ∷ trace) = IsTrue (is_in_loop L R s.address) × Stays L R t.after trace

-- what is known of a run of the loop
pub record Given (L : Layout) (R : Retry L) (s : State) (trace : List Transition) : Type 0 where
  pub run : Run L.image s trace
  pub stays : Stays L R s trace
  pub stop : StopLast trace
  pub leaves : TraceLeavesImage L.image trace

-- what is to be shown of it
data Result (L : Layout) (R : Retry L) (s : State) (trace : List Transition) : Type 0 where
  never : stores_of trace ≡ [] → (EndsBySwap L R s trace → ⊥) → Result L R s trace
  once : (x : StoreEvent) → stores_of trace ≡ x ∷ [] → Swapped L R s trace x → (EndsByBreak L R s trace → ⊥) → Result L R s trace

by_result : (L : Layout) (R : Retry L) (s : State) (trace : List Transition) → Result L R s trace → StoresByItsSwap L R s trace
by_result L R s trace (never e never_so) = record {
  at_most = omega (arith, ap length e);
  stored = λ x h. absurd (cc);
  by_swap = λ h. absurd (never_so h);
  by_break = λ h. e;
}
by_result L R s trace (once x e swapped never_so) = record {
  at_most = omega (arith, ap length e);
  stored = λ y h. let same : x ≡ y = cc in subst (λ z. Swapped L R s trace z) same swapped;
  by_swap = λ h. ap length e;
  by_break = λ h. absurd (never_so h);
}

-- the state where a round of the loop begins
abbrev top : (L : Layout) → Retry L → Core → State
top L R c = start L (suc R.opening) c

-- how far a round has come: at a member, with nothing stored
record Progress (L : Layout) (R : Retry L) (first : Core) (groups : List (List Transition)) (k : ℕ) (c : Core) : Type 0 where
  pub run : TypedRun L (At (suc R.opening)) first groups (At k) c
  pub each : length groups + suc R.opening ≡ k
  pub none : stores_of (concatenation groups) ≡ []
  pub lands : after_all (top L R first) (concatenation groups) ≡ start L k c

-- what is shown of each later round
abbrev Rounds : (L : Layout) → Retry L → ℕ → Type 0
Rounds L R n = (x : Core) → IsLoaded L.image x.memory → (rest : List Transition) → Given L R (top L R x) rest → length rest < n → Result L R (top L R x) rest

-- what is shown behind the member at which a round stands
abbrev Onward : (L : Layout) → Retry L → Core → List (List Transition) → ℕ → List Transition → Type 0
Onward L R first groups k trace =
    (g rest : List Transition) (t : Core) → Progress L R first (groups ++ g ∷ []) (suc k) t → IsLoaded L.image t.memory → Given L R (start L (suc k) t) rest → length rest ≤ length trace → Result L R (top L R first) (concatenation (groups ++ g ∷ []) ++ rest)

-- where a run stands that ends with a swap that succeeded
abbrev SwapEnd : (L : Layout) → Retry L → State → Type 0
SwapEnd L R s = (s.address ≡ step_address L (end_of L R)) ⊎ ((s.address ≡ step_address L (suc R.swap)) × (s.core.registers.code ≡ Code0))

-- behind a swap that succeeded the processor leaves
data Leaving (L : Layout) (R : Retry L) (rest : List Transition) : Type 0 where
  not_yet : rest ≡ [] → Leaving L R rest
  left : (t : Transition) → rest ≡ t ∷ [] → t.event ≡ Executed None → Leaving L R rest

-- what the swap stores at an address
abbrev replacement : (L : Layout) (R : Retry L) → (Registers → ℕ) → Registers → StoreEvent
replacement L R address r = record { address = address r; size = bytes (width_of (swap_size R.wide)); value = value_in (swap_size R.wide) r (number_of R.rn) }

untaken : (a b : ℕ) (n : Bool) → IsFalse n → cond n a b ≡ b
untaken a b true e = absurd (true≢false e)
untaken a b false e = refl

stopped_waits : (e : Event) (kind : StopKind) → e ≡ Interrupted kind → IsExecuted e → ⊥
stopped_waits e kind h g = subst IsExecuted h g

stopped_stays : (e : Event) (kind : StopKind) → e ≡ Interrupted kind → Goes e → ⊥
stopped_stays e kind h g = subst Goes h g

module _ (L : Layout) (all : AllCodeAt L) (R : Retry L) (some : L.offsets.step R.swap < L.offsets.step (suc R.swap)) where
  -- ---- the end of a run

  success_end : (s : State) (t : Transition) → IsSuccess L R s t → SwapEnd L R t.after
  success_end s t (inl h) = inr (h.1, h.2)
  success_end s t (inr h) = inl h.3

  swap_end : (s : State) (trace : List Transition) → EndsBySwap L R s trace → SwapEnd L R (after_all s trace)
  swap_end s [] h = absurd h
  swap_end s (t ∷ []) h = success_end s t h
  swap_end s (t ∷ u ∷ trace) h = swap_end t.after (u ∷ trace) h

  break_end : (s : State) (trace : List Transition) → EndsByBreak L R s trace → (after_all s trace).address ≡ step_address L (end_of L R)
  break_end s [] h = absurd h
  break_end s (t ∷ []) h = h.4
  break_end s (t ∷ u ∷ trace) h = break_end t.after (u ∷ trace) h

  swap_append : (s : State) (g : List Transition) (u : Transition) (us : List Transition) → EndsBySwap L R s (g ++ u ∷ us) → EndsBySwap L R (after_all s g) (u ∷ us)
  swap_append s [] u us h = h
  swap_append s (t ∷ []) u us h = h
  swap_append s (t ∷ x ∷ g) u us h = swap_append t.after (x ∷ g) u us h

  break_append : (s : State) (g : List Transition) (u : Transition) (us : List Transition) → EndsByBreak L R s (g ++ u ∷ us) → EndsByBreak L R (after_all s g) (u ∷ us)
  break_append s [] u us h = h
  break_append s (t ∷ []) u us h = h
  break_append s (t ∷ x ∷ g) u us h = break_append t.after (x ∷ g) u us h

  stays_append : (s : State) (g h : List Transition) → Stays L R s (g ++ h) → Stays L R (after_all s g) h
  stays_append s [] h a = a
  stays_append s (t ∷ g) h a = stays_append t.after g h a.1

  stays_out : (s : State) (rest : List Transition) → s.address ≡ step_address L (end_of L R) → Stays L R s rest → rest ≡ []
  stays_out s [] e h = refl
  stays_out s (t ∷ rest) e h = absurd (outside L all R some s.address e h.0)

  given_after : (s : State) (trace g rest : List Transition) (t : State) → Given L R s trace → trace ≡ g ++ rest → after_all s g ≡ t → Given L R t rest
  given_after s trace g rest t a split lands =
      let b = subst (λ l. Given L R s l) split a in
      subst (λ y. Given L R y rest) lands (record { run = run_after L s g rest b.run; stays = stays_append s g rest b.stays; stop = stop_append g rest b.stop; leaves = leaves_append L.image g rest b.leaves })

  -- ---- what came before, in another round

  top_not_end : step_address L (suc R.opening) ≡ step_address L (end_of L R) → ⊥
  top_not_end e = member_not_end L all R some (suc R.opening) (omega arith) R.order e

  top_no_end : (c : Core) → SwapEnd L R (top L R c) → ⊥
  top_no_end c (inl e) = top_not_end e
  top_no_end c (inr e) = not_back L all R some (suc R.opening) (omega arith) R.order e.0

  lift_swap_end : (s : State) (c : Core) (g rest : List Transition) → after_all s g ≡ top L R c → (EndsBySwap L R (top L R c) rest → ⊥) → EndsBySwap L R s (g ++ rest) → ⊥
  lift_swap_end s c g [] lands never_so h = top_no_end c (subst (SwapEnd L R) lands (swap_end s g (subst (λ l. EndsBySwap L R s l) (append-nil g) h)))
  lift_swap_end s c g (u ∷ us) lands never_so h = never_so (subst (λ x. EndsBySwap L R x (u ∷ us)) lands (swap_append s g u us h))

  lift_break_end : (s : State) (c : Core) (g rest : List Transition) → after_all s g ≡ top L R c → (EndsByBreak L R (top L R c) rest → ⊥) → EndsByBreak L R s (g ++ rest) → ⊥
  lift_break_end s c g [] lands never_so h = top_not_end (ap (λ (x : State). x.address) (sym lands) ∙ break_end s g (subst (λ l. EndsByBreak L R s l) (append-nil g) h))
  lift_break_end s c g (u ∷ us) lands never_so h = never_so (subst (λ x. EndsByBreak L R x (u ∷ us)) lands (break_append s g u us h))

  lift_swapped : (s : State) (c : Core) (g rest : List Transition) (x : StoreEvent) → after_all s g ≡ top L R c → Swapped L R (top L R c) rest x → Swapped L R s (g ++ rest) x
  lift_swapped s c g rest x lands w =
      let m = concatenation w.groups ++ w.helpers in
      let state : after_all s ((g ++ w.earlier) ++ m) ≡ after_all (top L R c) (w.earlier ++ m) = ap (λ l. after_all s l) (append_assoc g w.earlier m) ∙ after_append s g (w.earlier ++ m) ∙ ap (λ y. after_all y (w.earlier ++ m)) lands in
      record {
        earlier = g ++ w.earlier;
        groups = w.groups;
        helpers = w.helpers;
        transition = w.transition;
        later = w.later;
        first = w.first;
        reached = w.reached;
        split = ap (λ l. g ++ l) w.split ∙ sym (append_assoc g (w.earlier ++ m) (w.transition ∷ w.later)) ∙ ap (λ l. l ++ w.transition ∷ w.later) (sym (append_assoc g w.earlier m));
        begins = after_append s g w.earlier ∙ ap (λ y. after_all y w.earlier) lands ∙ w.begins;
        run = w.run;
        each = w.each;
        quiet = w.quiet;
        event = w.event;
        address = w.address;
        operand = w.operand;
        puts = w.puts;
        found = ap (λ y. number_at (after_writes y w.transition).core.memory.get (w.address w.reached.registers) (bytes (width_of (swap_size R.wide)))) state ∙ w.found;
      }

  lift : (s : State) (c : Core) (g rest : List Transition) → after_all s g ≡ top L R c → stores_of g ≡ [] → Result L R (top L R c) rest → Result L R s (g ++ rest)
  lift s c g rest lands none (never e never_so) = never (stores_none g rest none e) (lift_swap_end s c g rest lands never_so)
  lift s c g rest lands none (once x e swapped never_so) =
      once x (stores_append g rest ∙ ap (λ l. l ++ stores_of rest) none ∙ e) (lift_swapped s c g rest x lands swapped) (lift_break_end s c g rest lands never_so)

  -- ---- one round

  lands_after : (first : Core) (groups : List (List Transition)) (k : ℕ) (c : Core) → Progress L R first groups k c → (h : List Transition) → after_all (top L R first) (concatenation groups ++ h) ≡ after_all (start L k c) h
  lands_after first groups k c p h = after_append (top L R first) (concatenation groups) h ∙ ap (λ y. after_all y h) p.lands

  progress_step : (first : Core) (groups : List (List Transition)) (k : ℕ) (c : Core) → Progress L R first groups k c → (g : List Transition) → stores_of g ≡ [] → (t : Core) → TypedStep L k (core_after_writes (all_writes g) c) (At (suc k)) t → IsGroup L k c g (At (suc k)) t → Progress L R first (groups ++ g ∷ []) (suc k) t
  progress_step first groups k c p g none t step group = record {
    run = typed_snoc L groups (At (suc R.opening)) first k c p.run g (At (suc k)) t step group;
    each = omega (arith, length-append groups (g ∷ []), p.each);
    none = ap stores_of (concatenated_snoc groups g) ∙ stores_none (concatenation groups) g p.none none;
    lands = ap (λ l. after_all (top L R first) l) (concatenated_snoc groups g) ∙ lands_after first groups k c p g ∙ group.2;
  }

  regroup : (s : State) (groups : List (List Transition)) (g rest trace : List Transition) → trace ≡ g ++ rest → Result L R s (concatenation (groups ++ g ∷ []) ++ rest) → Result L R s (concatenation groups ++ trace)
  regroup s groups g rest trace split r =
      subst (λ l. Result L R s l) (ap (λ l. l ++ rest) (concatenated_snoc groups g) ∙ append_assoc (concatenation groups) g rest ∙ ap (λ l. concatenation groups ++ l) (sym split)) r

  -- the schedule ends while the processor is in the loop
  leaf : (first : Core) (groups : List (List Transition)) (k : ℕ) (c : Core) → Progress L R first groups k c → (trace : List Transition) → stores_of trace ≡ [] → (SwapEnd L R (after_all (start L k c) trace) → ⊥) → Result L R (top L R first) (concatenation groups ++ trace)
  leaf first groups k c p trace none ne =
      never (stores_none (concatenation groups) trace p.none none) (λ h. ne (subst (SwapEnd L R) (lands_after first groups k c p trace) (swap_end (top L R first) (concatenation groups ++ trace) h)))

  -- inside a member or the swap no run ends with a swap that succeeded
  no_end_inside : (k : ℕ) (s : State) → L.offsets.step (suc k) ≤ L.offsets.step (suc R.swap) → InStep L k s.address → SwapEnd L R s → ⊥
  no_end_inside k s le at (inl e) = in_step_not_end L all R some k s.address (omega (arith, le, back_strict L all R some)) at e
  no_end_inside k s le at (inr e) = in_step_not_back L all R some k s.address le at e.0

  -- nor where a member begins
  no_end_at : (k : ℕ) (c : Core) → R.opening < k → k ≤ R.swap → SwapEnd L R (start L k c) → ⊥
  no_end_at k c above le (inl e) = member_not_end L all R some k above le e
  no_end_at k c above le (inr e) = not_back L all R some k above le e.0

  -- nor behind a swap that failed
  no_end_behind : (t : Core) → t.registers.code ≡ Code1 → SwapEnd L R (start L (suc R.swap) t) → ⊥
  no_end_behind t code (inl e) = not_end L all R some (L.offsets.step (suc R.swap)) (back_strict L all R some) e
  no_end_behind t code (inr e) = let zero_code = e.1 in absurd (cc)

  -- the last transition isn't the back branch behind a swap that succeeded
  leaf_last : (first : Core) (groups : List (List Transition)) (k : ℕ) (c : Core) → Progress L R first groups k c → (trace h : List Transition) (t : Transition) → trace ≡ h ++ t ∷ [] → stores_of trace ≡ [] → (EndsBySwap L R (after_all (start L k c) h) (t ∷ []) → ⊥) → Result L R (top L R first) (concatenation groups ++ trace)
  leaf_last first groups k c p trace h t split none never_so =
      never (stores_none (concatenation groups) trace p.none none) (λ w.
      never_so (subst (λ x. EndsBySwap L R x (t ∷ [])) (lands_after first groups k c p h) (swap_append (top L R first) (concatenation groups ++ h) t [] (subst (λ l. EndsBySwap L R (top L R first) l) (ap (λ l. concatenation groups ++ l) split ∙ sym (append_assoc (concatenation groups) h (t ∷ []))) w))))

  -- register work: the next member, or the schedule ends
  work : (first : Core) (groups : List (List Transition)) (k : ℕ) (c : Core) → Progress L R first groups k c → R.opening < k → k < R.swap → WorkStep L k → IsLoaded L.image c.memory → (trace : List Transition) → Given L R (start L k c) trace → Runs L k c trace → Onward L R first groups k trace → Result L R (top L R first) (concatenation groups ++ trace)
  work first groups k c p above below plain is_loaded trace given (waits few quiet at) next =
      leaf first groups k c p trace (quiet_stores trace quiet) (no_end_inside k (after_all (start L k c) trace) (omega (arith, member_below L all R some (suc k) (omega (arith, above)) below, some)) at)
  work first groups k c p above below plain is_loaded trace given (silent step within same) next =
      let q : start L k c ≡ start L (suc k) c = ap (λ n. record { core = c; address = wrapping_add64 L.image.base n }) (sym same) in
      regroup (top L R first) groups [] trace trace refl (next [] trace c (progress_step first groups k c p [] refl c step (omega arith, inl (same, refl), q)) is_loaded (subst (λ y. Given L R y trace) q given) (omega arith))
  work first groups k c p above below plain is_loaded trace given (goes h rest t split few long nothing j x step e memory lands l) next =
      let y = core_after_writes (all_writes (h ++ t ∷ [])) c in
      let none : typed_store_event L k y ≡ None = plain.none y in
      let stays : At j ≡ At (suc k) = plain.stays y (At j) x step in
      let same : j ≡ suc k = cc in
      let split' : trace ≡ (h ++ t ∷ []) ++ rest = split ∙ sym (append_assoc h (t ∷ []) rest) in
      let state : after_all (start L k c) (h ++ t ∷ []) ≡ start L (suc k) x = after_append (start L k c) h (t ∷ []) ∙ lands ∙ ap (λ i. start L i x) same in
      let step' : TypedStep L k y (At (suc k)) x = subst (λ i. TypedStep L k y (At i) x) same step in
      let stores : stores_of (h ++ t ∷ []) ≡ [] = stores_none h (t ∷ []) (quiet_stores h nothing) (first_stores t (Executed None) [] (e ∙ ap Executed none) refl) in
      let group : IsGroup L k c (h ++ t ∷ []) (At (suc k)) x = (omega (arith, few, length-append h (t ∷ [])), inr (long, record { before = h; last = t; is = refl; nothing = nothing; stores = e }), state) in
      regroup (top L R first) groups (h ++ t ∷ []) rest trace split' (next (h ++ t ∷ []) rest x (progress_step first groups k c p (h ++ t ∷ []) stores x step' group) (l (subst (λ o. IsDisjoint L.image o) (sym none) tt)) (given_after (start L k c) trace (h ++ t ∷ []) rest (start L (suc k) x) given split' state) (omega (arith, ap length split', length-append (h ++ t ∷ []) rest)))
  work first groups k c p above below plain is_loaded trace given (stops h rest t kind split quiet e wrong) next = absurd (plain.right c wrong)
  work first groups k c p above below plain is_loaded trace given (ends g rest split e x step group ends_match) next =
      let stays : Ended e ≡ At (suc k) = plain.stays (core_after_writes (all_writes g) c) (Ended e) x step in absurd (cc)
  work first groups k c p above below plain is_loaded trace given (stuck wrong loses) next = absurd (plain.right c wrong)

  -- a break that leaves the loop is no swap
  break_no_success : (k : ℕ) (c : Core) (t : Transition) (y : Core) → R.opening < k → k ≤ R.swap → t.after ≡ start L (end_of L R) y → IsSuccess L R (start L k c) t → ⊥
  break_no_success k c t y above le lands (inl h) = end_not_back L all R some (ap (λ (x : State). x.address) (sym lands) ∙ h.1)
  break_no_success k c t y above le lands (inr h) = not_back L all R some k above le h.1

  -- a break: out of the loop, or the next member
  break_taken : (first : Core) (groups : List (List Transition)) (k mask : ℕ) (c : Core) → Progress L R first groups k c → R.opening < k → k < R.swap → kind_at L k ≡ Some (Leads mask (end_of L R)) → (HasNoBytes L k → ⊥) → (trace : List Transition) → Given L R (start L k c) trace → (t : Transition) (rest : List Transition) → trace ≡ t ∷ rest →
      t.event ≡ Executed None → IsLoaded L.image (core_after_writes (all_writes (t ∷ [])) c).memory →
      (taken : Bool) → t.after ≡ start L (cond taken (end_of L R) (suc k)) (core_after_writes (all_writes (t ∷ [])) c) → TypedStep L k (core_after_writes (all_writes (t ∷ [])) c) (cond taken (At (end_of L R)) (At (suc k))) (core_after_writes (all_writes (t ∷ [])) c) → Onward L R first groups k trace → Result L R (top L R first) (concatenation groups ++ trace)
  break_taken first groups k mask c p above below is long trace given t rest split e is_loaded true lands step next =
      let given' = given_after (start L k c) trace (t ∷ []) rest t.after given split refl in
      let over : rest ≡ [] = stays_out t.after rest (ap (λ (y : State). y.address) lands) given'.stays in
      let split' : trace ≡ [] ++ t ∷ [] = split ∙ ap (λ l. t ∷ l) over in
      leaf_last first groups k c p trace [] t split' (ap stores_of split' ∙ first_stores t (Executed None) [] e refl) (break_no_success k c t (core_after_writes (all_writes (t ∷ [])) c) above (omega (arith, below)) lands)
  break_taken first groups k mask c p above below is long trace given t rest split e is_loaded false lands step next =
      let y = core_after_writes (all_writes (t ∷ [])) c in
      let none : typed_store_event L k y ≡ None = ap (λ f. store_event_of_kind f y) is in
      let group : IsGroup L k c (t ∷ []) (At (suc k)) y = (omega arith, inr (long, record { before = []; last = t; is = refl; nothing = tt; stores = e ∙ ap Executed (sym none) }), lands) in
      regroup (top L R first) groups (t ∷ []) rest trace split (next (t ∷ []) rest y (progress_step first groups k c p (t ∷ []) (first_stores t (Executed None) [] e refl) y step group) is_loaded (given_after (start L k c) trace (t ∷ []) rest (start L (suc k) y) given split lands) (omega (arith, ap length split)))

  break_out : (first : Core) (groups : List (List Transition)) (k mask : ℕ) (c : Core) → Progress L R first groups k c → R.opening < k → k < R.swap → kind_at L k ≡ Some (Leads mask (end_of L R)) → (HasNoBytes L k → ⊥) → (trace : List Transition) → Given L R (start L k c) trace → Branched L k mask (end_of L R) c trace → Onward L R first groups k trace →
      Result L R (top L R first) (concatenation groups ++ trace)
  break_out first groups k mask c p above below is long trace given (none_yet none) next =
      leaf first groups k c p trace (ap stores_of none) (λ h. no_end_at k c above (omega (arith, below)) (subst (λ l. SwapEnd L R (after_all (start L k c) l)) none h))
  break_out first groups k mask c p above below is long trace given (one_transition t rest split e lands is_loaded step) next =
      break_taken first groups k mask c p above below is long trace given t rest split e is_loaded (is_selected mask c.registers.code) lands step next

  -- ---- behind the swap

  back_branched : (t : Core) (rest : List Transition) → IsLoaded L.image t.memory → Run L.image (start L (suc R.swap) t) rest → Branched L (suc R.swap) R.mask (suc R.opening) t rest
  back_branched t rest is_loaded run =
      let x = step_at L all (suc R.swap) _ R.back in
      loop_branched x R.mask (suc R.opening) refl refl (small_mask R.mask x.code.valid.0) x.code.valid.1 t is_loaded rest run

  succeeded : (t : Core) (rest : List Transition) → t.registers.code ≡ Code0 → Given L R (start L (suc R.swap) t) rest → Branched L (suc R.swap) R.mask (suc R.opening) t rest → Leaving L R rest
  succeeded t rest code given (none_yet none) = not_yet none
  succeeded t rest code given (one_transition b rest2 split e lands is_loaded step) =
      let off : IsFalse (is_selected R.mask t.registers.code) = ap (λ x. is_selected R.mask x) code ∙ R.retries in
      let given' = given_after (start L (suc R.swap) t) rest (b ∷ []) rest2 b.after given split refl in
      let over : rest2 ≡ [] = stays_out b.after rest2 (ap (λ (y : State). y.address) lands ∙ ap (step_address L) (untaken (suc R.opening) (end_of L R) _ off)) given'.stays in
      left b (split ∙ ap (λ l. b ∷ l) over) e

  leaving_stores : (rest : List Transition) → Leaving L R rest → stores_of rest ≡ []
  leaving_stores rest (not_yet none) = ap stores_of none
  leaving_stores rest (left t split e) = ap stores_of split ∙ first_stores t (Executed None) [] e refl

  -- and it doesn't leave by a break
  leaving_break : (s : State) (t : Core) (g rest : List Transition) → after_all s g ≡ start L (suc R.swap) t → Leaving L R rest → EndsByBreak L R s (g ++ rest) → ⊥
  leaving_break s t g rest lands (not_yet none) h =
      let e = break_end s (g ++ rest) h in
      not_end L all R some (L.offsets.step (suc R.swap)) (back_strict L all R some) (ap (λ (x : State). x.address) (sym lands) ∙ ap (λ l. (after_all s l).address) (sym (append-nil g) ∙ ap (λ l. g ++ l) (sym none)) ∙ e)
  leaving_break s t g rest lands (left u split e) h =
      let b = subst (λ y. EndsByBreak L R y (u ∷ [])) lands (break_append s g u [] (subst (λ l. EndsByBreak L R s (g ++ l)) split h)) in
      not_back L all R some b.0 b.1 (omega (arith, b.2)) (sym b.3)

  swap_won : (address : Registers → ℕ) → operand_address L R.operand ≡ Some address → (first : Core) (groups : List (List Transition)) (c : Core) → Progress L R first groups R.swap c → (trace h rest : List Transition) (t : Transition) → trace ≡ h ++ t ∷ rest → StoreNothing h → (x : Core) → t.after ≡ start L (suc R.swap) x → t.event ≡ Executed (Some (replacement L R address c.registers)) →
      number_at (after_writes (after_all (start L R.swap c) h) t).core.memory.get (address c.registers) (bytes (width_of (swap_size R.wide))) ≡ value_in (swap_size R.wide) c.registers (number_of R.rd) → Leaving L R rest → Result L R (top L R first) (concatenation groups ++ trace)
  swap_won address is first groups c p trace h rest t split quiet x lands e found leaving =
      let o = replacement L R address c.registers in
      let s = top L R first in
      let g = concatenation groups ++ (h ++ t ∷ []) in
      let stores : stores_of (concatenation groups ++ trace) ≡ o ∷ [] =
      stores_append (concatenation groups) trace ∙ ap (λ l. l ++ stores_of trace) p.none ∙ ap stores_of split ∙ stores_append h (t ∷ rest) ∙ ap (λ l. l ++ stores_of (t ∷ rest)) (quiet_stores h quiet) ∙ first_stores t (Executed (Some o)) rest e (leaving_stores rest leaving) in
      let parts : concatenation groups ++ trace ≡ g ++ rest = ap (λ l. concatenation groups ++ l) (split ∙ sym (append_assoc h (t ∷ []) rest)) ∙ sym (append_assoc (concatenation groups) (h ++ t ∷ []) rest) in
      let state : after_all s g ≡ start L (suc R.swap) x = lands_after first groups R.swap c p (h ++ t ∷ []) ∙ after_append (start L R.swap c) h (t ∷ []) ∙ lands in
      once o stores (record {
        earlier = [];
        groups = groups;
        helpers = h;
        transition = t;
        later = rest;
        first = first;
        reached = c;
        split = ap (λ l. concatenation groups ++ l) split ∙ sym (append_assoc (concatenation groups) h (t ∷ rest));
        begins = refl;
        run = p.run;
        each = p.each;
        quiet = quiet;
        event = e;
        address = address;
        operand = is;
        puts = refl;
        found = ap (λ y. number_at (after_writes y t).core.memory.get (address c.registers) (bytes (width_of (swap_size R.wide)))) (lands_after first groups R.swap c p h) ∙ found;
      }) (λ b. leaving_break s x g rest state leaving (subst (λ l. EndsByBreak L R s l) parts b))

  -- a round that stored nothing, and the next one
  again : (first : Core) (groups : List (List Transition)) (c : Core) → Progress L R first groups R.swap c → (trace g rest : List Transition) → trace ≡ g ++ rest → stores_of g ≡ [] → (x : Core) → after_all (start L R.swap c) g ≡ top L R x → Result L R (top L R x) rest → Result L R (top L R first) (concatenation groups ++ trace)
  again first groups c p trace g rest split none x lands r =
      subst (λ l. Result L R (top L R first) l) (append_assoc (concatenation groups) g rest ∙ ap (λ l. concatenation groups ++ l) (sym split))
      (lift (top L R first) x (concatenation groups ++ g) rest (lands_after first groups R.swap c p g ∙ lands) (stores_none (concatenation groups) g p.none none) r)

  -- nor does the back branch behind a swap that failed
  back_no_success : (s : State) (t : Core) (b : Transition) (x : Core) → s ≡ start L (suc R.swap) t → t.registers.code ≡ Code1 → b.after ≡ start L (end_of L R) x → IsSuccess L R s b → ⊥
  back_no_success s t b x lands code at (inl h) = end_not_back L all R some (ap (λ (y : State). y.address) (sym at) ∙ h.1)
  back_no_success s t b x lands code at (inr h) = let zero_code : t.registers.code ≡ Code0 = ap (λ (y : State). y.core.registers.code) (sym lands) ∙ h.2 in absurd (cc)

  lost_back : (first : Core) (groups : List (List Transition)) (c : Core) → Progress L R first groups R.swap c → (trace g rest : List Transition) (b : Transition) → trace ≡ g ++ b ∷ rest → stores_of g ≡ [] → (t : Core) → after_all (start L R.swap c) g ≡ start L (suc R.swap) t → t.registers.code ≡ Code1 → b.event ≡ Executed None → Given L R b.after rest → (x : Core) → IsLoaded L.image x.memory →
      (taken : Bool) → b.after ≡ start L (cond taken (suc R.opening) (end_of L R)) x → Rounds L R (length trace) → Result L R (top L R first) (concatenation groups ++ trace)
  lost_back first groups c p trace g rest b split none t lands code e given x is_loaded true at next =
      let split' : trace ≡ (g ++ b ∷ []) ++ rest = split ∙ sym (append_assoc g (b ∷ []) rest) in
      again first groups c p trace (g ++ b ∷ []) rest split' (stores_none g (b ∷ []) none (first_stores b (Executed None) [] e refl)) x (after_append (start L R.swap c) g (b ∷ []) ∙ at) (next x is_loaded rest (subst (λ y. Given L R y rest) at given) (omega (arith, ap length split', length-append (g ++ b ∷ []) rest, length-append g (b ∷ []))))
  lost_back first groups c p trace g rest b split none t lands code e given x is_loaded false at next =
      let over : rest ≡ [] = stays_out b.after rest (ap (λ (y : State). y.address) at) given.stays in
      let split' : trace ≡ g ++ b ∷ [] = split ∙ ap (λ l. g ++ b ∷ l) over in
      leaf_last first groups R.swap c p trace g b split' (ap stores_of split' ∙ stores_none g (b ∷ []) none (first_stores b (Executed None) [] e refl)) (back_no_success (after_all (start L R.swap c) g) t b x lands code at)

  swap_lost : (first : Core) (groups : List (List Transition)) (c : Core) → Progress L R first groups R.swap c → (trace h rest : List Transition) (u : Transition) → Given L R (start L R.swap c) trace → trace ≡ h ++ u ∷ rest → StoreNothing h → (t : Core) → u.after ≡ start L (suc R.swap) t → t.registers.code ≡ Code1 → u.event ≡ Executed None →
      Branched L (suc R.swap) R.mask (suc R.opening) t rest → Rounds L R (length trace) → Result L R (top L R first) (concatenation groups ++ trace)
  swap_lost first groups c p trace h rest u given split quiet t lands code e (none_yet none) next =
      let split' : trace ≡ h ++ u ∷ [] = split ∙ ap (λ l. h ++ u ∷ l) none in
      let state : after_all (start L R.swap c) trace ≡ start L (suc R.swap) t = ap (λ l. after_all (start L R.swap c) l) split' ∙ after_append (start L R.swap c) h (u ∷ []) ∙ lands in
      leaf first groups R.swap c p trace (ap stores_of split' ∙ stores_none h (u ∷ []) (quiet_stores h quiet) (first_stores u (Executed None) [] e refl)) (λ q. no_end_behind t code (subst (SwapEnd L R) state q))
  swap_lost first groups c p trace h rest u given split quiet t lands code e (one_transition b rest2 split2 e2 at is_loaded step) next =
      let g = h ++ u ∷ [] in
      let state : after_all (start L R.swap c) g ≡ start L (suc R.swap) t = after_append (start L R.swap c) h (u ∷ []) ∙ lands in
      let none : stores_of g ≡ [] = stores_none h (u ∷ []) (quiet_stores h quiet) (first_stores u (Executed None) [] e refl) in
      let split' : trace ≡ g ++ b ∷ rest2 = split ∙ ap (λ l. h ++ u ∷ l) split2 ∙ sym (append_assoc h (u ∷ []) (b ∷ rest2)) in
      let given' : Given L R b.after rest2 = given_after (start L R.swap c) trace (g ++ b ∷ []) rest2 b.after given (split' ∙ sym (append_assoc g (b ∷ []) rest2)) (after_append (start L R.swap c) g (b ∷ [])) in
      lost_back first groups c p trace g rest2 b split' none t state code e2 given' (core_after_writes (all_writes (b ∷ [])) t) is_loaded (is_selected R.mask t.registers.code) at next

  -- ---- the swap

  stop_no_success : (s : State) (t : Transition) (kind : StopKind) → t.event ≡ Interrupted kind → IsSuccess L R s t → ⊥
  stop_no_success s t kind e (inl h) = stopped_waits t.event kind e h.0
  stop_no_success s t kind e (inr h) = stopped_waits t.event kind e h.0

  -- a stop ends the run of the loop
  stopped_leaf : (first : Core) (groups : List (List Transition)) (k : ℕ) (c : Core) → Progress L R first groups k c → (trace h rest : List Transition) (t : Transition) (kind : StopKind) → Given L R (start L k c) trace → trace ≡ h ++ t ∷ rest → StoreNothing h → t.event ≡ Interrupted kind → Result L R (top L R first) (concatenation groups ++ trace)
  stopped_leaf first groups k c p trace h rest t kind given split quiet e =
      let over : rest ≡ [] = stop_is_last h rest t (subst StopLast split given.stop) (stopped_stays t.event kind e) in
      let split' : trace ≡ h ++ t ∷ [] = split ∙ ap (λ l. h ++ t ∷ l) over in
      leaf_last first groups k c p trace h t split' (ap stores_of split' ∙ stores_none h (t ∷ []) (quiet_stores h quiet) (first_stores t (Interrupted kind) [] e refl)) (stop_no_success (after_all (start L k c) h) t kind e)

  trapped_leaf : (first : Core) (groups : List (List Transition)) (k : ℕ) (c : Core) → Progress L R first groups k c → (trace g rest : List Transition) (n : TrapKind) → Given L R (start L k c) trace → trace ≡ g ++ rest → StoreNothing g → NextStops L n (after_all (start L k c) g) rest → Result L R (top L R first) (concatenation groups ++ trace)
  trapped_leaf first groups k c p trace g [] n given split quiet h = absurd h
  trapped_leaf first groups k c p trace g (t ∷ rest) n given split quiet h = stopped_leaf first groups k c p trace g rest t h.0 given split quiet h.1

  swap_went : (address : Registers → ℕ) → operand_address L R.operand ≡ Some address → (first : Core) (groups : List (List Transition)) (c : Core) → Progress L R first groups R.swap c → (trace h rest : List Transition) (t : Transition) → Given L R (start L R.swap c) trace → trace ≡ h ++ t ∷ rest → StoreNothing h → (y x : Core) → y.registers ≡ c.registers →
      t.after ≡ start L (suc R.swap) x → (after_writes (after_all (start L R.swap c) h) t).core.memory ≡ y.memory → IsLoaded L.image x.memory → (needs : Bool) (v : ℕ) → MayExecute (swapping L R address c.registers) (loosen needs v y) x →
      (found : Bool) → (number_at y.memory.get (address c.registers) (bytes (width_of (swap_size R.wide))) == value_in (swap_size R.wide) c.registers (number_of R.rd)) ≡ found → t.event ≡ Executed (store_event_at (address c.registers) (bytes (width_of (swap_size R.wide))) (cond found (Some (value_in (swap_size R.wide) c.registers (number_of R.rn))) None)) →
      Rounds L R (length trace) → Result L R (top L R first) (concatenation groups ++ trace)
  swap_went address is first groups c p trace h rest t given split quiet y x same lands memory is_loaded needs v did true eq e next =
      let split' : trace ≡ (h ++ t ∷ []) ++ rest = split ∙ sym (append_assoc h (t ∷ []) rest) in
      let given' : Given L R (start L (suc R.swap) x) rest = given_after (start L R.swap c) trace (h ++ t ∷ []) rest (start L (suc R.swap) x) given split' (after_append (start L R.swap c) h (t ∷ []) ∙ lands) in
      let code : x.registers.code ≡ Code0 = did.code ∙ ap (λ b. cond b Code0 Code1) eq in
      swap_won address is first groups c p trace h rest t split quiet x lands e (ap (λ m. number_at m.get (address c.registers) (bytes (width_of (swap_size R.wide)))) memory ∙ eqb-true _ _ eq) (succeeded x rest code given' (back_branched x rest is_loaded given'.run))
  swap_went address is first groups c p trace h rest t given split quiet y x same lands memory is_loaded needs v did false eq e next =
      let split' : trace ≡ (h ++ t ∷ []) ++ rest = split ∙ sym (append_assoc h (t ∷ []) rest) in
      let given' : Given L R (start L (suc R.swap) x) rest = given_after (start L R.swap c) trace (h ++ t ∷ []) rest (start L (suc R.swap) x) given split' (after_append (start L R.swap c) h (t ∷ []) ∙ lands) in
      let code : x.registers.code ≡ Code1 = did.code ∙ ap (λ b. cond b Code0 Code1) eq in
      swap_lost first groups c p trace h rest t given split quiet x lands code e (back_branched x rest is_loaded given'.run) next

  swap_step : (address : Registers → ℕ) → operand_address L R.operand ≡ Some address → SwapKind L R address → (first : Core) (groups : List (List Transition)) (c : Core) → Progress L R first groups R.swap c → (trace : List Transition) → Given L R (start L R.swap c) trace → Runs L R.swap c trace → Rounds L R (length trace) → Result L R (top L R first) (concatenation groups ++ trace)
  swap_step address is s first groups c p trace given (waits few quiet at) next =
      leaf first groups R.swap c p trace (quiet_stores trace quiet) (no_end_inside R.swap (after_all (start L R.swap c) trace) (omega arith) at)
  swap_step address is s first groups c p trace given (silent step within same) next = absurd (omega (arith, same, some))
  swap_step address is s first groups c p trace given (stops h rest t kind split quiet e wrong) next = stopped_leaf first groups R.swap c p trace h rest t kind given split quiet e
  swap_step address is s first groups c p trace given (stuck wrong loses) next = absurd (subst Loses s.is loses)
  swap_step address is s first groups c p trace given (ends g rest split e x step group ends_match) next =
      let y = core_after_writes (all_writes g) c in
      let n = operation_ends s.needs (s.operation y.registers) s.code R.swap y e x (subst (λ f. KindStep L f R.swap y (Ended e) x) s.is step) in
      let match' : EndsMatch L (Ended (Trapped n.0)) x (after_all (start L R.swap c) g) rest = subst (λ z. EndsMatch L (Ended z) x (after_all (start L R.swap c) g) rest) n.1 ends_match in
      trapped_leaf first groups R.swap c p trace g rest n.0 given split group.1 match'.1
  swap_step address is s first groups c p trace given (goes h rest t split few long nothing j x step e memory lands l) next =
      let y = core_after_writes (all_writes (h ++ t ∷ [])) c in
      let q = operation_goes s.needs (s.operation y.registers) s.code R.swap y j x (subst (λ f. KindStep L f R.swap y (At j) x) s.is step) in
      let did : MayExecute (swapping L R address c.registers) (loosen s.needs q.0 y) x = subst (λ op. MayExecute op (loosen s.needs q.0 y) x) (s.swaps c.registers) q.1 in
      let stored : typed_store_event L R.swap y ≡ store_event (access (swapping L R address c.registers).effect) y.memory = ap (λ f. store_event_of_kind f y) s.is ∙ ap (λ op. store_event (access op.effect) y.memory) (s.swaps c.registers) in
      let apart : LeavesImage L.image t.event = transition_leaves L.image h rest t (subst (λ z. TraceLeavesImage L.image z) split given.leaves) in
      let is_loaded : IsLoaded L.image x.memory = l (subst (LeavesImage L.image) e apart) in
      swap_went address is first groups c p trace h rest t given split nothing y x refl (lands ∙ ap (λ i. start L i x) q.2) memory is_loaded s.needs q.0 did _ refl (e ∙ ap Executed stored) next

  -- an operand without an address: the step isn't built
  no_swap_step : kind_at L R.swap ≡ Some Unsupported → (first : Core) (groups : List (List Transition)) (c : Core) → Progress L R first groups R.swap c → (trace : List Transition) → Runs L R.swap c trace → Result L R (top L R first) (concatenation groups ++ trace)
  no_swap_step is first groups c p trace (waits few quiet at) = leaf first groups R.swap c p trace (quiet_stores trace quiet) (no_end_inside R.swap (after_all (start L R.swap c) trace) (omega arith) at)
  no_swap_step is first groups c p trace (silent step within same) = absurd (omega (arith, same, some))
  no_swap_step is first groups c p trace (stops h rest t kind split quiet e wrong) = absurd (subst (λ f. KindWrong L f c) is wrong)
  no_swap_step is first groups c p trace (stuck wrong loses) = absurd (subst Loses is loses)
  no_swap_step is first groups c p trace (ends g rest split e x step group ends_match) = absurd (subst (λ f. KindStep L f R.swap (core_after_writes (all_writes g) c) (Ended e) x) is step)
  no_swap_step is first groups c p trace (goes h rest t split few long nothing j x step e memory lands l) = absurd (subst (λ f. KindStep L f R.swap (core_after_writes (all_writes (h ++ t ∷ [])) c) (At j) x) is step)

  any_swap_step : (first : Core) (groups : List (List Transition)) (c : Core) → Progress L R first groups R.swap c → (trace : List Transition) → Given L R (start L R.swap c) trace → Runs L R.swap c trace → Rounds L R (length trace) → (o : Option (Registers → ℕ)) → operand_address L R.operand ≡ o → Result L R (top L R first) (concatenation groups ++ trace)
  any_swap_step first groups c p trace given runs next None e = no_swap_step (unaddressed L R e) first groups c p trace runs
  any_swap_step first groups c p trace given runs next (Some address) e = swap_step address e (swap_kind L R address e) first groups c p trace given runs next

  -- ---- the induction

  at_member : (first : Core) (groups : List (List Transition)) (k : ℕ) (c : Core) → Progress L R first groups k c → R.opening < k → k < R.swap → IsLoaded L.image c.memory → (trace : List Transition) → Given L R (start L k c) trace → MemberStep L k (end_of L R) → Runs L k c trace → Onward L R first groups k trace → Result L R (top L R first) (concatenation groups ++ trace)
  at_member first groups k c p above below is_loaded trace given (works plain) runs next = work first groups k c p above below plain is_loaded trace given runs next
  at_member first groups k c p above below is_loaded trace given (breaks mask e) runs next =
      let x = step_at L all k _ e in
      let size : L.offsets.step (suc k) ≡ L.offsets.step k + 6 = x.code.size in
      break_out first groups k mask c p above below (ap (kind_of_step L) e) (λ none. absurd (omega (arith, none, size))) trace given (loop_branched x mask (end_of L R) refl refl (small_mask mask x.code.valid.0) x.code.valid.1 c is_loaded trace given.run) next

  round : (n : ℕ) → Rounds L R n → (m : ℕ) (first : Core) (groups : List (List Transition)) (k : ℕ) (c : Core) → Progress L R first groups k c → R.opening < k → k + m ≡ R.swap → IsLoaded L.image c.memory → (trace : List Transition) → Given L R (start L k c) trace → length trace ≤ n → Result L R (top L R first) (concatenation groups ++ trace)
  round n shorter zero first groups k c p above e is_loaded trace given le =
      let same : k ≡ R.swap = omega (arith, e) in
      let given' = subst (λ i. Given L R (start L i c) trace) same given in
      any_swap_step first groups c (subst (λ i. Progress L R first groups i c) same p) trace given' (step_runs_placed L all R.swap _ R.swaps c is_loaded trace given'.run) (λ x l rest g lt. shorter x l rest g (omega (arith, lt, le))) (operand_address L R.operand) refl
  round n shorter (suc m) first groups k c p above e is_loaded trace given le =
      let i = R.members k above (omega (arith, e)) in
      at_member first groups k c p above (omega (arith, e)) is_loaded trace given (member_step L k (end_of L R) i.0 i.1 i.2) (step_runs_placed L all k i.0 i.1 c is_loaded trace given.run) (λ g rest t p' is_loaded' given' le'.
      round n shorter m first (groups ++ g ∷ []) (suc k) t p' (omega (arith, above)) (omega (arith, e)) is_loaded' rest given' (omega (arith, le, le')))

  rounds : (n : ℕ) → Rounds L R n
  rounds zero c is_loaded trace given lt = absurd (omega (arith, lt))
  rounds (suc n) c is_loaded trace given lt =
      round n (rounds n) (R.swap - suc R.opening) c [] (suc R.opening) c (record { run = (refl, refl); each = omega arith; none = refl; lands = refl }) (omega arith) (omega (arith, R.order)) is_loaded trace given (omega (arith, lt))

  pub loop_guarded : (c : Core) → IsLoaded L.image c.memory → (trace : List Transition) → Given L R (start L (suc R.opening) c) trace → StoresByItsSwap L R (start L (suc R.opening) c) trace
  loop_guarded c is_loaded trace given = by_result L R (top L R c) trace (rounds (suc (length trace)) c is_loaded trace given (omega arith))
