-- Retry loops under every schedule of several processors.
use Rattle.std.specs.Prelude.{◌≡◌, ℕ, suc, List, [], ◌∷◌, ◌++◌}
use Rattle.s390x_operations.specs.State.{CodeImage, IsLoaded}
use Rattle.s390x_machine.specs.CodeAt.{AllCodeAt}
use Rattle.s390x_machine.specs.Layout.{Layout, step_address}
use Rattle.s390x_schedule.specs.Schedule.{World, view, Tick, after_ticks, Scheduled, LeavesImage, transitions_of, steps_taken}
use Rattle.s390x_schedule.specs.declared.schedule.ScheduleEnd.{ScheduleEnd}
use Rattle.s390x_interference.specs.Retry.{Retry, loop_run, StoresByItsSwap}

-- no processor stores into the image
abbrev pub AllLeaveImage : CodeImage → List Tick → Type 0
AllLeaveImage image [] = Unit {0}
AllLeaveImage image (t ∷ ticks) = LeavesImage image t.event × AllLeaveImage image ticks

-- Wherever in a schedule's steps a processor stands at the first step of a retry loop, its run of the loop from there on stores by its swap alone.
-- The image lies in memory, and no processor stores into it
abbrev pub GuardsLoops : Layout → World → List Tick → Type 0
GuardsLoops L w ticks =
    (R : Retry L) → IsLoaded L.image w.memory → AllLeaveImage L.image ticks → (earlier rest : List Tick) → ticks ≡ earlier ++ rest → (p : ℕ) → (view (after_ticks w earlier) p).address ≡ step_address L (suc R.opening) →
    StoresByItsSwap L R (view (after_ticks w earlier) p) (loop_run L R (view (after_ticks w earlier) p) (transitions_of p [] rest))

-- so of every schedule of processors over the code of this layout
abbrev pub Interference : Layout → Type 0
Interference L = AllCodeAt L → (w : World) (ps : List ℕ) (ticks : List Tick) → Scheduled w ps ticks → GuardsLoops L w ticks

-- the steps that `run_schedule` took are a schedule, in which each retry loop is guarded, of whatever code lies in memory
pub record Guarded (w : World) (ps : List ℕ) (end : ScheduleEnd) (v : World) : Type 0 where
  pub ticks : List Tick
  pub scheduled : Scheduled w (steps_taken ps end) ticks
  pub is : v ≡ after_ticks w ticks
  pub guards : (L : Layout) → AllCodeAt L → GuardsLoops L w ticks
