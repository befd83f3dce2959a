-- Retry loops under every schedule.
use Rattle.std.proofs.Common.{◌≡◌, ℕ, zero, suc, ◌+◌, ◌<◌, List, [], ◌∷◌, ◌++◌, Bool, true, false, cond, ◌==◌, inl, inr, refl, sym, ap, subst, arith}
use Rattle.s390x_operations.specs.State.{State, Write, CodeImage, IsLoaded}
use Rattle.s390x_machine.specs.Layout.{Layout}
use Rattle.s390x_machine.specs.Machine.{MachineStep, Transition, Run}
use Rattle.s390x_machine.specs.Match.{start}
use Rattle.s390x_machine.proofs.Frame.{lies_written}
use Rattle.s390x_schedule.specs.Schedule.{World, view, Tick, Goes, Scheduled, after_tick, after_ticks, stored_writes, transitions_of, LeavesImage, OthersLeaveImage, EndsAs, steps_taken}
use Rattle.s390x_schedule.specs.declared.schedule.ScheduleEnd.{ScheduleEnd}
use Rattle.s390x_schedule.proofs.Going.{end_taken}
use Rattle.s390x_schedule.proofs.Storing.{step_stores}
use Rattle.s390x_schedule.proofs.Views.{sees}
use Rattle.s390x_interference.specs.Retry.{Retry, is_in_loop, loop_run, StoresByItsSwap}
use Rattle.s390x_interference.specs.Schedules.{AllLeaveImage, Interference, Guarded}
use Rattle.s390x_interference.proofs.Interference.{Given, loop_guarded}
use Rattle.s390x_interference.proofs.Swap.{swap_has_bytes}
use Rattle.s390x_interference.proofs.Traces.{StopLast, TraceLeavesImage}

-- ---- the image

others_leave : (image : CodeImage) (p : ℕ) (ticks : List Tick) → AllLeaveImage image ticks → OthersLeaveImage image p ticks
others_leave image p [] h = tt
others_leave image p (t ∷ ticks) h = (λ e. h.0, others_leave image p ticks h.1)

leaves_rest : (image : CodeImage) (earlier rest : List Tick) → AllLeaveImage image (earlier ++ rest) → AllLeaveImage image rest
leaves_rest image [] rest h = h
leaves_rest image (t ∷ earlier) rest h = leaves_rest image earlier rest h.1

loaded_after_step : (image : CodeImage) (w : World) (p : ℕ) (t : Tick) → MachineStep (view w p) t.event t.after → LeavesImage image t.event → IsLoaded image w.memory → IsLoaded image t.after.core.memory
loaded_after_step image w p t step leaves is_loaded =
    let s = step_stores (view w p) t.event t.after step in
    subst (IsLoaded image) (sym s.memory) (lies_written image w.memory.has w.memory.get (stored_writes t.event) is_loaded (s.may image leaves))

loaded_after : (image : CodeImage) (ps : List ℕ) (w : World) (earlier rest : List Tick) → Scheduled w ps (earlier ++ rest) → AllLeaveImage image (earlier ++ rest) → IsLoaded image w.memory → IsLoaded image (after_ticks w earlier).memory
loaded_after image ps w [] rest h leaves is_loaded = is_loaded
loaded_after image [] w (t ∷ earlier) rest h leaves is_loaded = absurd (cc)
loaded_after image (p ∷ ps) w (t ∷ earlier) rest (who, step, inl c) leaves is_loaded =
    let here = loaded_after_step image w p t step leaves.0 is_loaded in
    loaded_after image [] (after_tick w t) earlier rest c.1 leaves.1 here
loaded_after image (p ∷ ps) w (t ∷ earlier) rest (who, step, inr c) leaves is_loaded =
    let here = loaded_after_step image w p t step leaves.0 is_loaded in
    loaded_after image ps (after_tick w t) earlier rest c.1 leaves.1 here

-- ---- a schedule from one of its steps on

none_behind : (xs ys : List Tick) → xs ++ ys ≡ [] → ys ≡ []
none_behind [] ys e = e
none_behind (x ∷ xs) ys e = absurd (cc)

scheduled_rest : (ps : List ℕ) (w : World) (earlier rest : List Tick) → Scheduled w ps (earlier ++ rest) → (qs : List ℕ) × Scheduled (after_ticks w earlier) qs rest
scheduled_rest ps w [] rest h = (ps, h)
scheduled_rest [] w (t ∷ earlier) rest h = absurd (cc)
scheduled_rest (p ∷ ps) w (t ∷ earlier) rest (who, step, inl c) = ([], none_behind earlier rest c.1)
scheduled_rest (p ∷ ps) w (t ∷ earlier) rest (who, step, inr c) = scheduled_rest ps (after_tick w t) earlier rest c.1

-- ---- what one processor does

stop_chosen : (own : Bool) (a b : List Transition) → StopLast a → StopLast b → StopLast (cond own a b)
stop_chosen true a b x y = x
stop_chosen false a b x y = y

stops_last : (p : ℕ) (ps : List ℕ) (ticks : List Tick) (w : World) (ws : List Write) → Scheduled w ps ticks → StopLast (transitions_of p ws ticks)
stops_last p [] ticks w ws h = subst (λ l. StopLast (transitions_of p ws l)) (sym h) tt
stops_last p (q ∷ ps) [] w ws h = absurd h
stops_last p (q ∷ ps) (t ∷ ticks) w ws (who, step, inl c) =
    stop_chosen (t.processor == p) _ _ (λ h. ap (λ l. transitions_of p [] l) c.1, subst (λ l. StopLast (transitions_of p [] l)) (sym c.1) tt)
    (subst (λ l. StopLast (transitions_of p (ws ++ stored_writes t.event) l)) (sym c.1) tt)
stops_last p (q ∷ ps) (t ∷ ticks) w ws (who, step, inr c) =
    stop_chosen (t.processor == p) _ _ (λ h. absurd (h c.0), stops_last p ps ticks (after_tick w t) [] c.1) (stops_last p ps ticks (after_tick w t) (ws ++ stored_writes t.event) c.1)

leaves_chosen : (image : CodeImage) (own : Bool) (a b : List Transition) → TraceLeavesImage image a → TraceLeavesImage image b → TraceLeavesImage image (cond own a b)
leaves_chosen image true a b x y = x
leaves_chosen image false a b x y = y

trace_leaves : (image : CodeImage) (p : ℕ) (ticks : List Tick) (ws : List Write) → AllLeaveImage image ticks → TraceLeavesImage image (transitions_of p ws ticks)
trace_leaves image p [] ws h = tt
trace_leaves image p (t ∷ ticks) ws h =
    leaves_chosen image (t.processor == p) _ _ (h.0, trace_leaves image p ticks [] h.1) (trace_leaves image p ticks (ws ++ stored_writes t.event) h.1)

-- ---- its run of the loop

loop_given : (L : Layout) (R : Retry L) (s : State) (t : Transition) (rest : List Transition) (within : Bool) → is_in_loop L R s.address ≡ within → Run L.image s (t ∷ rest) → ((Goes t.event → ⊥) → rest ≡ []) → LeavesImage L.image t.event → Given L R t.after rest → Given L R s (cond within (t ∷ rest) [])
loop_given L R s t rest false e run stop leaves given = record { run = tt; stays = tt; stop = tt; leaves = tt }
loop_given L R s t rest true e run stop leaves given = record { run = run; stays = (e, given.stays); stop = (stop, given.stop); leaves = (leaves, given.leaves) }

given_loop : (L : Layout) (R : Retry L) (trace : List Transition) (s : State) → Run L.image s trace → StopLast trace → TraceLeavesImage L.image trace → Given L R s (loop_run L R s trace)
given_loop L R [] s run stop leaves = record { run = tt; stays = tt; stop = tt; leaves = tt }
given_loop L R (t ∷ trace) s run stop leaves =
    let given = given_loop L R trace t.after run.1 stop.1 leaves.1 in
    loop_given L R s t (loop_run L R t.after trace) (is_in_loop L R s.address) refl (run.0, given.run) (λ h. ap (λ l. loop_run L R t.after l) (stop.0 h)) leaves.0 given

strictly : (a b n : ℕ) → b ≡ a + n → (b ≡ a → ⊥) → a < b
strictly a b zero e h = absurd (h (omega (arith, e)))
strictly a b (suc n) e h = omega (arith, e)

-- ---- the theorem

pub interference : (L : Layout) → Interference L
interference L all w ps ticks scheduled R is_loaded leaves earlier rest split p at =
    let here = subst (Scheduled w ps) split scheduled in
    let leaves' = subst (AllLeaveImage L.image) split leaves in
    let u = after_ticks w earlier in
    let behind = scheduled_rest ps w earlier rest here in
    let lies = loaded_after L.image ps w earlier rest here leaves' is_loaded in
    let left = leaves_rest L.image earlier rest leaves' in
    let s = view u p in
    let trace = transitions_of p [] rest in
    let run : Run L.image s trace = sees L.image p u s [] refl tt behind.0 rest behind.1 (others_leave L.image p rest left) in
    let loop = loop_run L R s trace in
    let given = given_loop L R trace s run (stops_last p behind.0 rest u [] behind.1) (trace_leaves L.image p rest [] left) in
    let same : s ≡ start L (suc R.opening) s.core = λ i. record { core = s.core; address = at i } in
    let some = strictly (L.offsets.step R.swap) (L.offsets.step (suc R.swap)) _ (all.steps R.swap _ R.swaps).size (swap_has_bytes L all R u.memory lies) in
    subst (λ y. StoresByItsSwap L R y loop) (sym same) (loop_guarded L all R some s.core lies loop (subst (λ y. Given L R y loop) same given))

pub guarded : (w v : World) (ps : List ℕ) (end : ScheduleEnd) → EndsAs w ps end v → Guarded w ps end v
guarded w v ps end h =
    let t = end_taken w v ps end h in
    record { ticks = t.ticks; scheduled = t.scheduled; is = t.is; guards = λ L all. interference L all w (steps_taken ps end) t.ticks t.scheduled }
