-- The steps of a schedule one after another.
use Rattle.std.proofs.Common.{◌≡◌, ℕ, zero, suc, ◌+◌, ◌<◌, List, [], ◌∷◌, ◌++◌, length, take, get_or, inl, inr, refl, sym, ap, ◌∙◌, subst, arith}
use Rattle.std.proofs.lemmas.List.{take_more}
use Rattle.s390x_operations.specs.State.{State}
use Rattle.s390x_machine.specs.Machine.{Executed, Interrupted, MachineStep}
use Rattle.s390x_machine.specs.Step.{Steps}
use Rattle.s390x_machine.specs.declared.step.StepEnd.TheVariants as step
use Rattle.s390x_schedule.specs.declared.schedule.ScheduleEnd.{ScheduleEnd}
use Rattle.s390x_schedule.specs.declared.schedule.ScheduleEnd.TheVariants.{Done, Stopped, NoRow}
use Rattle.s390x_schedule.specs.Schedule.{World, AllGo, EndsAs, Goes, NameMachines, Taken, Tick, after_step, after_tick, steps_taken, view}
use Rattle.s390x_operations.specs.declared.stop.StopKind.{StopKind}
use Rattle.s390x_schedule.proofs.Storing.{stop_changes_nothing}
use Rattle.s390x_schedule.proofs.Worlds.{same_world}

-- a number of the schedule is that of a machine
pub named_at : (n : ℕ) (ps : List ℕ) (i : ℕ) → NameMachines n ps → i < length ps → get_or ps i 0 < n
named_at n [] i h lt = absurd (omega (arith, lt))
named_at n (p ∷ ps) zero h lt = h.0
named_at n (p ∷ ps) (suc i) h lt = named_at n ps i h.1 (omega (arith, lt))

one_more : (w v : World) (ps : List ℕ) (p : ℕ) (s : State) → AllGo w ps v → Steps (view v p) step.Went s → AllGo w (ps ++ p ∷ []) (after_step v p s)
one_more w v [] p s h goes = (s, subst (λ u. Steps (view u p) step.Went s) h goes, ap (λ u. after_step u p s) h)
one_more w v (q ∷ ps) p s h goes = (h.0, h.1, one_more (after_step w q h.0) v ps p s h.2 goes)

-- one more step of the schedule
pub goes_further : (w v u : World) (ps : List ℕ) (i : ℕ) (s : State) → i < length ps → AllGo w (take i ps) v → Steps (view v (get_or ps i 0)) step.Went s → u ≡ after_step v (get_or ps i 0) s → AllGo w (take (i + 1) ps) u
goes_further w v u ps i s lt h goes is =
    subst (λ qs. AllGo w qs u) (sym (take_more ps i 0 lt)) (subst (AllGo w (take i ps ++ get_or ps i 0 ∷ [])) (sym is) (one_more w v (take i ps) (get_or ps i 0) s h goes))

-- the step that stops, or is open, changes nothing
pub stops_at : (w v u : World) (ps : List ℕ) (i : ℕ) (kind : StopKind) (place : ℕ) → i < length ps → AllGo w (take i ps) v → Steps (view v (get_or ps i 0)) (step.Stopped kind place) (view u (get_or ps i 0)) → u ≡ after_step v (get_or ps i 0) (view u (get_or ps i 0)) → EndsAs w ps (Stopped i kind place) u
stops_at w v u ps i kind place lt h steps world =
    let p = get_or ps i 0 in
    let same : view u p ≡ view v p = stop_changes_nothing (view v p) kind (view u p) steps.1 in
    let is : u ≡ v = world ∙ ap (after_step v p) same ∙ same_world v p in
    subst (λ z. EndsAs w ps (Stopped i kind place) z) (sym is) (lt, h, subst (λ z. Steps (view v p) (step.Stopped kind place) z) same steps)

pub is_open_at : (w v u : World) (ps : List ℕ) (i : ℕ) → i < length ps → AllGo w (take i ps) v → Steps (view v (get_or ps i 0)) step.NoRow (view u (get_or ps i 0)) → u ≡ after_step v (get_or ps i 0) (view u (get_or ps i 0)) → EndsAs w ps (NoRow i) u
is_open_at w v u ps i lt h steps world =
    let p = get_or ps i 0 in
    let is : u ≡ v = world ∙ ap (after_step v p) steps.1 ∙ same_world v p in
    subst (λ z. EndsAs w ps (NoRow i) z) (sym is) (lt, h, subst (λ z. Steps (view v p) step.NoRow z) steps.1 steps)

-- ---- as a schedule of steps

pub all_taken : (w v : World) (ps : List ℕ) → AllGo w ps v → Taken w ps v
all_taken w v [] h = record { ticks = []; scheduled = refl; is = h }
all_taken w v (p ∷ ps) (s, goes, rest) =
    let e = goes.1 in
    let t : Tick = record { processor = p; event = Executed e.stored; after = s } in
    let r = all_taken (after_step w p s) v ps rest in
    record { ticks = t ∷ r.ticks; scheduled = (refl, e.goes, inr (tt, r.scheduled)); is = r.is }

-- the steps that go, and behind them one that stops
then_stops : (w v : World) (ps : List ℕ) (i : ℕ) (t : Tick) → i < length ps → AllGo w (take i ps) v → t.processor ≡ get_or ps i 0 → MachineStep (view v (get_or ps i 0)) t.event t.after → (Goes t.event → ⊥) → (u : World) → u ≡ after_tick v t → Taken w ps u
then_stops w v [] i t lt h who steps halts u is = absurd (omega (arith, lt))
then_stops w v (p ∷ ps) zero t lt h who steps halts u is =
    record {
      ticks = t ∷ [];
      scheduled = (who, subst (λ z. MachineStep (view z p) t.event t.after) h steps, inl (halts, refl));
      is = is ∙ ap (λ z. after_tick z t) h;
    }
then_stops w v (p ∷ ps) (suc i) t lt (s, goes, rest) who steps halts u is =
    let e = goes.1 in
    let r = then_stops (after_step w p s) v ps i t (omega (arith, lt)) rest who steps halts u is in
    record { ticks = record { processor = p; event = Executed e.stored; after = s } ∷ r.ticks; scheduled = (refl, e.goes, inr (tt, r.scheduled)); is = r.is }

pub end_taken : (w v : World) (ps : List ℕ) (end : ScheduleEnd) → EndsAs w ps end v → Taken w (steps_taken ps end) v
end_taken w v ps Done h = all_taken w v ps h
end_taken w v ps (Stopped at kind address) h =
    let p = get_or ps at 0 in
    then_stops w v ps at (record { processor = p; event = Interrupted kind; after = view v p }) h.0 h.1 refl h.2.1 (λ goes. goes) v (sym (same_world v p))
end_taken w v ps (NoRow at) h = all_taken w v (take at ps) h.1
