-- A step of one processor in a simulation, and one run after another.
use Rattle.std.proofs.Common.{◌≡◌, ℕ, zero, suc, ◌+◌, ◌-◌, ◌%◌, ◌^◌, ◌<◌, ◌≤◌, List, [], ◌∷◌, ◌++◌, length, get_or, slice_set, take, drop, Option, Bool, true, false, cond, ◌==◌, inl, inr, refl, sym, ap, ◌∙◌, subst, arith, eqb-true, eq-eqb}
use Rattle.std.proofs.Math.Nat.{mod-add-mod}
use Rattle.std.proofs.lemmas.Bool.{eqb-false}
use Rattle.std.proofs.lemmas.List.{take_more}
use Rattle.s390x_operations.specs.Effects.{code_numbered}
use Rattle.s390x_operations.specs.State.{Memory, State, StoreEvent, number_at}
use Rattle.s390x_machine.specs.Machine.{Executed}
use Rattle.s390x_machine.specs.Step.{Steps}
use Rattle.s390x_machine.specs.declared.machine.Machine.{Machine}
use Rattle.s390x_machine.specs.declared.step.StepEnd.TheVariants as step
use Rattle.s390x_schedule.specs.declared.schedule.ScheduleEnd.{ScheduleEnd}
use Rattle.s390x_schedule.specs.declared.schedule.ScheduleEnd.TheVariants.{Done, Stopped, NoRow}
use Rattle.s390x_schedule.specs.Schedule.{Processor, World, Tick, AllGo, EndsAs, Scheduled, after_tick, after_ticks, processor_of, processors_of, view, world_of}
use Rattle.s390x_schedule.proofs.Worlds.{at_number}
use Rattle.s390x_smp.specs.Image.{HasImage}
use Rattle.s390x_smp.specs.Simulation.{IsAdding, IsSimulation, Simulation, total, word_of, world}
use Rattle.s390x_smp.specs.Stores.{AllWent, CompletesStore, Counts, HasStores, RunsAs, has_stored}
use Rattle.s390x_smp.proofs.Memories.{usable}
use Rattle.s390x_smp.proofs.Places.{GoesOn, Progress, Tells, goes_on, own, placed_above, placed_to}
use Rattle.s390x_smp.proofs.Totals.{total_rises}

-- ---- one count changes

set_length : (xs : List ℕ) (p n : ℕ) → length (slice_set xs p n) ≡ length xs
set_length [] p n = refl
set_length (x ∷ xs) zero n = refl
set_length (x ∷ xs) (suc p) n = ap suc (set_length xs p n)

set_at : (xs : List ℕ) (p n : ℕ) → p < length xs → get_or (slice_set xs p n) p 0 ≡ n
set_at [] p n lt = absurd (omega (arith, lt))
set_at (x ∷ xs) zero n lt = refl
set_at (x ∷ xs) (suc p) n lt = set_at xs p n (omega (arith, lt))

set_other : (xs : List ℕ) (p n q : ℕ) → (q ≡ p → ⊥) → get_or (slice_set xs p n) q 0 ≡ get_or xs q 0
set_other (x ∷ xs) zero n zero other = absurd (other refl)
set_other (x ∷ xs) (suc p) n (suc q) other = set_other xs p n q (λ e. other (ap suc e))
set_other xs p n q other = refl

-- the counts after a step that completes a store, or not
abbrev pub counted : Bool → List ℕ → ℕ → List ℕ
counted true ns p = slice_set ns p ((get_or ns p 0 + 1) % 2 ^ 64)
counted false ns p = ns

-- the simulation with other machines, memory and counts
abbrev pub after : Simulation → List Machine → Memory → List ℕ → Simulation
after a ms m ns = record { base = a.base; word = a.word; addends = a.addends; machines = ms; memory = m; stores = ns }

module _ (a : Simulation) (ok : IsSimulation a) (p : ℕ) (lt : p < length a.addends) where
  abbrev addend : ℕ
  addend = get_or a.addends p 0

  runs : GoesOn a.base a.word addend (p % 2 == 0) (view (world a) p)
  runs = goes_on a.base a.word addend (p % 2 == 0) (usable a.base a.word ok.usable) ok.below (view (world a) p) ok.image (ok.each p lt)

  -- the processor is in the code
  pub starts_below : a.base ≤ (processors_of a.machines p).address
  starts_below = placed_above (p % 2 == 0) a.base addend (processors_of a.machines p) (placed_to (p % 2 == 0) a.base addend (processors_of a.machines p) (ok.each p lt).at)

  -- its step goes
  pub goes : (end : ScheduleEnd) (v : World) → EndsAs (world a) (p ∷ []) end v → end ≡ Done
  goes Done v h = refl
  goes (Stopped zero kind address) v h =
      absurd (runs.never_stops kind (view (world a) p) (subst (λ w. Steps (view w p) (step.Stopped kind address) (view w p)) h.1 h.2).1)
  goes (Stopped (suc n) kind address) v h = let few = h.0 in absurd (omega (arith, few))
  goes (NoRow zero) v h = absurd (runs.never_open (subst (λ w. Steps (view w p) step.NoRow (view w p)) h.1 h.2).0)
  goes (NoRow (suc n)) v h = let few = h.0 in absurd (omega (arith, few))

  module _ (ms : List Machine) (m : Memory) (same : length ms ≡ length a.machines) (h : AllGo (world a) (p ∷ []) (world_of ms m)) where
    abbrev next : State
    next = h.0

    abbrev stored : Option StoreEvent
    stored = h.1.1.stored

    progress : Progress a.base a.word addend (p % 2 == 0) (view (world a) p) next
    progress = runs.progress stored next h.1.1.goes

    abbrev tick : Tick
    tick = record { processor = p; event = Executed stored; after = next }

    processor_is : (q : ℕ) → processors_of ms q ≡ cond (q == p) (own next) (processors_of a.machines q)
    processor_is q = ap (λ (w : World). w.processor q) h.2

    memory_is : m ≡ next.core.memory
    memory_is = ap (λ (w : World). w.memory) h.2

    itself : processors_of ms p ≡ own next
    itself = processor_is p ∙ ap (λ b. cond b (own next) (processors_of a.machines p)) (eq-eqb p p refl)

    tells : (b : Bool) → has_stored ((processors_of a.machines p).address - a.base) (processors_of ms p).registers.code ≡ b → Tells a.word addend b (view (world a) p) next
    tells b e =
        let at = progress.at in
        let offset : (processors_of a.machines p).address - a.base ≡ progress.offset = omega (arith, at) in
        let code : (processors_of ms p).registers.code ≡ next.core.registers.code = ap (λ (x : Processor). x.registers.code) itself in
        subst (λ z. Tells a.word addend z (view (world a) p) next) (sym (ap (λ o. has_stored o next.core.registers.code) offset) ∙ sym (ap (has_stored ((processors_of a.machines p).address - a.base)) code) ∙ e) progress.tells

    adding : (q : ℕ) → q < length a.addends → IsAdding a.base a.word (get_or a.addends q 0) (q % 2 == 0) (processors_of ms q)
    adding q few = subst (IsAdding a.base a.word (get_or a.addends q 0) (q % 2 == 0)) (sym (processor_is q)) (either (q == p) refl)
      where
        either : (t : Bool) → (q == p) ≡ t → IsAdding a.base a.word (get_or a.addends q 0) (q % 2 == 0) (cond t (own next) (processors_of a.machines q))
        either true e = subst (λ k. IsAdding a.base a.word (get_or a.addends k 0) (k % 2 == 0) (own next)) (sym (eqb-true q p e)) progress.adding
        either false e = ok.each q few

    image : HasImage a.base a.word m
    image = subst (HasImage a.base a.word) (sym memory_is) (record {
      has = λ x. ap (λ f. f x) progress.has ∙ ok.image.has x;
      get = λ x out. progress.others x out ∙ ok.image.get x out;
    })

    few_stores : p < length a.stores
    few_stores = let n = ok.stores in omega (arith, lt, n)

    counted_length : (b : Bool) → length (counted b a.stores p) ≡ length a.stores
    counted_length true = set_length a.stores p ((get_or a.stores p 0 + 1) % 2 ^ 64)
    counted_length false = refl

    counted_below : (b : Bool) (q : ℕ) → get_or (counted b a.stores p) q 0 < 2 ^ 64
    counted_below true q = either (q == p) refl
      where
        either : (t : Bool) → (q == p) ≡ t → get_or (slice_set a.stores p ((get_or a.stores p 0 + 1) % 2 ^ 64)) q 0 < 2 ^ 64
        either true e =
            let f : get_or (slice_set a.stores p ((get_or a.stores p 0 + 1) % 2 ^ 64)) q 0 ≡ (get_or a.stores p 0 + 1) % 2 ^ 64 = ap (λ k. get_or (slice_set a.stores p ((get_or a.stores p 0 + 1) % 2 ^ 64)) k 0) (eqb-true q p e) ∙ set_at a.stores p ((get_or a.stores p 0 + 1) % 2 ^ 64) few_stores in
            omega (arith, f)
        either false e =
            let f = set_other a.stores p ((get_or a.stores p 0 + 1) % 2 ^ 64) q (eqb-false q p e) in
            let g = ok.bounded q in
            omega (arith, f, g)
    counted_below false q = ok.bounded q

    sum : (b : Bool) → Tells a.word addend b (view (world a) p) next → number_at m.get a.word 4 ≡ total a.addends (counted b a.stores p) % 2 ^ 32
    sum true t =
        let before = ok.sum in
        let now : number_at m.get a.word 4 ≡ (word_of a + addend) % 2 ^ 32 = ap (λ (x : Memory). number_at x.get a.word 4) memory_is ∙ t.1 in
        now ∙ ap (λ n. (n + addend) % 2 ^ 32) before ∙ mod-add-mod (total a.addends a.stores) (2 ^ 32) addend ∙ sym (total_rises a.addends a.stores p lt few_stores (ok.bounded p))
    sum false t = ap (λ (x : Memory). number_at x.get a.word 4) memory_is ∙ t.1 ∙ ok.sum

    count : (b : Bool) → Tells a.word addend b (view (world a) p) next → (q : ℕ) → (t : Bool) → (q == p) ≡ t → Counts q (world a) (tick ∷ []) (get_or a.stores q 0) (get_or (counted b a.stores p) q 0)
    count true told q true e = record {
      number = 1;
      is = inl (0, refl, (sym (eqb-true q p e), tt, subst (λ k. CompletesStore (view (world a) k) next) (sym (eqb-true q p e)) told.0), refl);
      rises = ap (λ k. get_or (slice_set a.stores p ((get_or a.stores p 0 + 1) % 2 ^ 64)) k 0) (eqb-true q p e) ∙ set_at a.stores p ((get_or a.stores p 0 + 1) % 2 ^ 64) few_stores ∙ ap (λ k. (get_or a.stores k 0 + 1) % 2 ^ 64) (sym (eqb-true q p e));
    }
    count true told q false e = record {
      number = 0;
      is = inr ((λ is. eqb-false q p e (sym is.0)), refl);
      rises = let f = set_other a.stores p ((get_or a.stores p 0 + 1) % 2 ^ 64) q (eqb-false q p e) in let g = ok.bounded q in omega (arith, f, g);
    }
    count false told q t e = record {
      number = 0;
      is = inr ((λ is. told.0 (subst (λ k. CompletesStore (view (world a) k) next) (sym is.0) is.2)), refl);
      rises = let g = ok.bounded q in omega (arith, g);
    }

    -- what is counted is the step's store, and all is as before but that
    pub stepped : (b : Bool) → has_stored ((processors_of a.machines p).address - a.base) (processors_of ms p).registers.code ≡ b → IsSimulation (after a ms m (counted b a.stores p)) × RunsAs a (p ∷ []) (after a ms m (counted b a.stores p))
    stepped b e =
        let told = tells b e in (
          record {
            usable = ok.usable;
            below = ok.below;
            machines = same ∙ ok.machines;
            stores = counted_length b ∙ ok.stores;
            bounded = counted_below b;
            each = adding;
            image = image;
            sum = sum b told;
          },
          record {
            base_is = refl;
            word_is = refl;
            addends_are = refl;
            machines = same;
            stores = counted_length b;
            ticks = tick ∷ [];
            scheduled = (refl, h.1.1.goes, inr (tt, refl));
            went = (tt, tt);
            ends = h.2;
            counts = λ q few. count b told q (q == p) refl;
          },
        )

-- ---- as the program has it

take_front : (xs ys : List Machine) (n : ℕ) → n ≡ length xs → take n (xs ++ ys) ≡ xs
take_front [] ys zero e = refl
take_front [] ys (suc n) e = absurd (omega (arith, e))
take_front (x ∷ xs) ys zero e = absurd (omega (arith, e))
take_front (x ∷ xs) ys (suc n) e = ap (λ zs. x ∷ zs) (take_front xs ys n (omega (arith, e)))

-- the machines that were lent and written are those of the list
pub written_back : (old new : List Machine) (n : ℕ) → n ≡ length old → length new ≡ length old → take n (new ++ drop (length new) old) ≡ new
written_back old new n e f = take_front new (drop (length new) old) n (e ∙ sym f)

-- a number at an index that is there is the same whatever it would be elsewhere
pub same_or : (xs : List ℕ) (p d e : ℕ) → p < length xs → get_or xs p d ≡ get_or xs p e
same_or [] p d e lt = absurd (omega (arith, lt))
same_or (x ∷ xs) zero d e lt = refl
same_or (x ∷ xs) (suc p) d e lt = same_or xs p d e (omega (arith, lt))

-- the machine at an index
pub machine_is : (ms : List Machine) (p : ℕ) (m : Machine) → p < length ms → m ≡ get_or ms p m → processors_of ms p ≡ processor_of m
machine_is ms p m lt e = at_number ms p m lt ∙ ap processor_of (sym e)

module _ (a : Simulation) (ok : IsSimulation a) (p : ℕ) (lt : p < length a.addends) where
  pub there : p < length a.machines
  there = let n = ok.machines in omega (arith, lt, n)

  pub counts_there : p < length a.stores
  counts_there = let n = ok.stores in omega (arith, lt, n)

  -- the processor's place isn't below the base
  pub offset_fits : (m : Machine) → m ≡ get_or a.machines p m → a.base ≤ m.place
  offset_fits m e = let f = starts_below a ok p lt in let g : (processors_of a.machines p).address ≡ m.place = ap (λ (x : Processor). x.address) (machine_is a.machines p m there e) in omega (arith, f, g)

  pub whole_step : (ms all : List Machine) (m : Memory) (old new : Machine) (ns : List ℕ) (b : Bool) → length ms ≡ length a.machines → all ≡ ms → EndsAs (world a) (p ∷ []) Done (world_of ms m)
      → old ≡ get_or a.machines p old → new ≡ get_or all p new → has_stored (old.place - a.base) (code_numbered new.cc) ≡ b → ns ≡ counted b a.stores p
      → IsSimulation (after a all m ns) × RunsAs a (p ∷ []) (after a all m ns)
  whole_step ms all m old new ns b same whole h is_old is_new told counts =
      let place : (processors_of a.machines p).address ≡ old.place = ap (λ (x : Processor). x.address) (machine_is a.machines p old there is_old) in
      let few : p < length ms = (let n = there in omega (arith, n, same)) in
      let code : (processors_of ms p).registers.code ≡ code_numbered new.cc = ap (λ (x : Processor). x.registers.code) (machine_is ms p new few (is_new ∙ ap (λ xs. get_or xs p new) whole)) in
      subst (λ xs. IsSimulation (after a xs m ns) × RunsAs a (p ∷ []) (after a xs m ns)) (sym whole)
      (subst (λ ks. IsSimulation (after a ms m ks) × RunsAs a (p ∷ []) (after a ms m ks)) (sym counts)
      (stepped a ok p lt ms m same h b (ap (λ n. has_stored (n - a.base) (processors_of ms p).registers.code) place ∙ ap (has_stored (old.place - a.base)) code ∙ told)))

-- one more store of the processor is counted
pub one_counted : (ns : List ℕ) (p n : ℕ) → p < length ns → n ≡ get_or ns p n → slice_set ns p ((n + 1) % 2 ^ 64) ≡ counted true ns p
one_counted ns p n lt e = ap (λ k. slice_set ns p ((k + 1) % 2 ^ 64)) (e ∙ same_or ns p n 0 lt)

-- ---- one run after another

scheduled_append : (w : World) (ps qs : List ℕ) (ts us : List Tick) → Scheduled w ps ts → AllWent ts → Scheduled (after_ticks w ts) qs us → Scheduled w (ps ++ qs) (ts ++ us)
scheduled_append w [] qs [] us h went k = k
scheduled_append w [] qs (t ∷ ts) us h went k = absurd (cc)
scheduled_append w (p ∷ ps) qs [] us h went k = absurd h
scheduled_append w (p ∷ ps) qs (t ∷ ts) us (who, acts, inl none) went k = absurd (none.0 went.0)
scheduled_append w (p ∷ ps) qs (t ∷ ts) us (who, acts, inr later) went k =
    (who, acts, inr (went.0, scheduled_append (after_tick w t) ps qs ts us later.1 went.1 k))

went_append : (ts us : List Tick) → AllWent ts → AllWent us → AllWent (ts ++ us)
went_append [] us h k = k
went_append (t ∷ ts) us h k = (h.0, went_append ts us h.1 k)

after_append : (w : World) (ts us : List Tick) → after_ticks w (ts ++ us) ≡ after_ticks (after_ticks w ts) us
after_append w [] us = refl
after_append w (t ∷ ts) us = after_append (after_tick w t) ts us

stores_append : (p : ℕ) (w : World) (ts us : List Tick) (m n : ℕ) → HasStores p w ts m → HasStores p (after_ticks w ts) us n → HasStores p w (ts ++ us) (m + n)
stores_append p w [] us m n h k = let e : n ≡ m + n = omega (arith, h) in subst (HasStores p w us) e k
stores_append p w (t ∷ ts) us m n (inl (j, e, is, rest)) k =
    inl (j + n, (let f : m + n ≡ suc (j + n) = omega (arith, e) in f), is, stores_append p (after_tick w t) ts us j n rest k)
stores_append p w (t ∷ ts) us m n (inr (none, rest)) k = inr (none, stores_append p (after_tick w t) ts us m n rest k)

both_counts : (p : ℕ) (w v : World) (ts us : List Tick) (x y z : ℕ) → v ≡ after_ticks w ts → Counts p w ts x y → Counts p v us y z → Counts p w (ts ++ us) x z
both_counts p w v ts us x y z is c d = record {
  number = c.number + d.number;
  is = stores_append p w ts us c.number d.number c.is (subst (λ u. HasStores p u us d.number) is d.is);
  rises = let e = c.rises in let f = d.rises in omega (arith, e, f);
}

-- one schedule after another
pub runs_both : (a b c : Simulation) (ps qs : List ℕ) → RunsAs a ps b → RunsAs b qs c → RunsAs a (ps ++ qs) c
runs_both a b c ps qs x y = record {
  base_is = y.base_is ∙ x.base_is;
  word_is = y.word_is ∙ x.word_is;
  addends_are = y.addends_are ∙ x.addends_are;
  machines = y.machines ∙ x.machines;
  stores = y.stores ∙ x.stores;
  ticks = x.ticks ++ y.ticks;
  scheduled = scheduled_append (world a) ps qs x.ticks y.ticks x.scheduled x.went (subst (λ w. Scheduled w qs y.ticks) x.ends y.scheduled);
  went = went_append x.ticks y.ticks x.went y.went;
  ends = y.ends ∙ ap (λ w. after_ticks w y.ticks) x.ends ∙ sym (after_append (world a) x.ticks y.ticks);
  counts = λ p few.
      let same = x.stores in
      both_counts p (world a) (world b) x.ticks y.ticks (get_or a.stores p 0) (get_or b.stores p 0) (get_or c.stores p 0) x.ends (x.counts p few) (y.counts p (omega (arith, few, same)));
}

-- one more step
pub runs_more : (a b c : Simulation) (ps : List ℕ) (i : ℕ) → i < length ps → RunsAs a (take i ps) b → RunsAs b (get_or ps i 0 ∷ []) c → RunsAs a (take (i + 1) ps) c
runs_more a b c ps i lt x y = subst (λ qs. RunsAs a qs c) (sym (take_more ps i 0 lt)) (runs_both a b c (take i ps) (get_or ps i 0 ∷ []) x y)
