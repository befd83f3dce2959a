-- The whole image stays in memory, and a run past it is one past each part.
use Rattle.std.proofs.Common.{List, [], ◌∷◌, ◌++◌, Option, Some, None, IsTrue, sym, subst, true≢false}
use Rattle.s390x_operations.specs.State.{Core, State, CodeImage, core_after_writes, IsLoaded}
use Rattle.s390x_operations.specs.Effects.{access}
use Rattle.s390x_machine.specs.Layout.{Layout}
use Rattle.s390x_machine.specs.Machine.{Event, Executed, Interrupted, Transition, TransitionStep, Run, after_writes, after_all}
use Rattle.s390x_machine.specs.Match.{StoreNothing}
use Rattle.s390x_machine.specs.StepKinds.{StepKind, Performs}
use Rattle.s390x_machine.specs.Typed.{faults_uncoded, touches_image, KindWrong}
use Rattle.s390x_machine.proofs.Frame.{lies_written, loaded_after_store}
use Rattle.s390x_machine.proofs.Induction.{form_into}
use Rattle.s390x_schedule.specs.Schedule.{LeavesImage}
use Rattle.s390x_schedule.proofs.Storing.{StoresAs, step_stores}
use Rattle.s390x_schedule.specs.Joint.{KindWrongIn}
use Rattle.s390x_schedule.specs.Parts.{IsPart}
use Rattle.s390x_schedule.proofs.Parts.{may_write_part, stores_into_whole}

-- a machine run of which others leave the whole image alone is one of which they leave a part alone
pub run_part : {whole part : CodeImage} → IsPart whole part → (s : State) (trace : List Transition) → Run whole s trace → Run part s trace
run_part x s [] r = tt
run_part x s (t ∷ trace) r = (record { may = may_write_part x s.core.memory.has t.writes r.0.may; goes = r.0.goes }, run_part x t.after trace r.1)

-- the first transitions of a run
pub run_front : (image : CodeImage) (s : State) (g rest : List Transition) → Run image s (g ++ rest) → Run image s g
run_front image s [] rest r = tt
run_front image s (t ∷ g) rest r = (r.0, run_front image t.after g rest r.1)

-- and those behind them
pub run_behind : (image : CodeImage) (s : State) (g rest : List Transition) → Run image s (g ++ rest) → Run image (after_all s g) rest
run_behind image s [] rest r = r
run_behind image s (t ∷ g) rest r = run_behind image t.after g rest r.1

-- a transition that stores nothing into the image leaves it in memory
pub loaded_behind : (image : CodeImage) (s : State) (t : Transition) → IsLoaded image s.core.memory → TransitionStep image s t → LeavesImage image t.event → IsLoaded image t.after.core.memory
loaded_behind image s t loaded step leaves = by_event t.event leaves (step_stores (after_writes s t) t.event t.after step.goes)
  where
    here : IsLoaded image (core_after_writes t.writes s.core).memory
    here = lies_written image s.core.memory.has s.core.memory.get t.writes loaded step.may

    by_event : (event : Event) → LeavesImage image event → StoresAs (after_writes s t) event t.after → IsLoaded image t.after.core.memory
    by_event (Executed x) out stores = subst (λ m. IsLoaded image m) (sym stores.memory) (loaded_after_store image x (core_after_writes t.writes s.core).memory here out)
    by_event (Interrupted kind) out stores = subst (λ m. IsLoaded image m) (sym stores.memory) here

-- so do transitions that store nothing at all
pub loaded_behind_all : (image : CodeImage) (s : State) (g : List Transition) → IsLoaded image s.core.memory → Run image s g → StoreNothing g → IsLoaded image (after_all s g).core.memory
loaded_behind_all image s [] loaded run nothing = loaded
loaded_behind_all image s (t ∷ g) loaded run nothing =
    loaded_behind_all image t.after g (loaded_behind image s t loaded run.0 (subst (λ e. LeavesImage image e) (sym nothing.0) tt)) run.1 nothing.1

-- ---- wrong steps

pub wrong_into : (whole : CodeImage) (L : Layout) (o : Option StepKind) (c : Core) → IsTrue (form_into whole o c) → KindWrongIn whole L o c
wrong_into whole L (Some (Performs needs operation code)) c e = touches_image e
wrong_into whole L (Some _) c e = absurd (true≢false (sym e))
wrong_into whole L None c e = tt

-- what is wrong in a member alone is wrong in the whole
pub wrong_in_whole : (whole : CodeImage) (L : Layout) → IsPart whole L.image → (o : Option StepKind) (c : Core) → KindWrong L o c → KindWrongIn whole L o c
wrong_in_whole whole L part (Some (Performs needs operation code)) c (faults_uncoded kind faults none) = faults_uncoded kind faults none
wrong_in_whole whole L part (Some (Performs needs operation code)) c (touches_image e) = touches_image (stores_into_whole part (access (operation c.registers).effect) e)
wrong_in_whole whole L part (Some _) c w = w
wrong_in_whole whole L part None c w = w
