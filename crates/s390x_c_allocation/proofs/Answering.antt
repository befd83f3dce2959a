-- How a call ends on a job or on a job with a plan.
use Rattle.std.proofs.Common.{◌≡◌, ℕ, List, ◌⊎◌, inl, inr, refl, sym, ◌∙◌, subst, None, arith}
use Rattle.std.proofs.lemmas.Bool.{true≢false}
use Rattle.std.proofs.lemmas.Option.{none-some}
use Rattle.std.specs.Prelude.{Result, Err, IsOk}
use Rattle.s390x_alloc.specs.Answered.{IsAnswered}
use Rattle.s390x_alloc.specs.Blocks.{IsFault}
use Rattle.s390x_alloc.specs.Checked.{plan_contents}
use Rattle.s390x_alloc.specs.Walks.{EveryWalkReadsAlike}
use Rattle.s390x_alloc.specs.declared.fault.PlanFault.{PlanFault}
use Rattle.s390x_inst.specs.declared.function.AllocatedFunction.{AllocatedFunction}
use Rattle.s390x_inst.specs.declared.state.FrameLayout.{FrameLayout}
use Rattle.s390x_job.specs.declared.job.Job.{Job}
use Rattle.s390x_job_plan.specs.Completions.{IsFirstWrongOfPlanned, IsPlannedText}
use Rattle.s390x_job_plan.specs.Text.{IsPlannedOf}
use Rattle.s390x_job_plan.specs.declared.planned_job.PlannedJob.{PlannedJob}
use Rattle.s390x_calls.proofs.Ending.{completed, job_completed}
use Rattle.s390x_c_allocation.specs.Operands.{CanBeReported, IsOperandsCall, IsReported, ReportsJobTo, report_of}
use Rattle.s390x_calls.specs.Put.{NoEntryIsWritten, PutsEntries}
use Rattle.s390x_c_allocation.specs.Plans.{ChecksPlanTo, HasNoFault, IsCheckPlanCall, IsChecked, IsFaultTold, at_plan_line, check_of}
use Rattle.s390x_c_allocation.specs.declared.plan.PlanReason.{PlanReason}
use Rattle.s390x_c_allocation.specs.declared.operand_entries.OperandEntry.{OperandEntry}
use Rattle.s390x_calls.specs.declared.reason.Reason.{Reason}
use Rattle.s390x_calls.specs.declared.status.Status.{Status}
use Rattle.s390x_calls.specs.declared.status.Status.TheVariants as status

-- a plan's first fault is the answer
pub fault_told : (p : PlannedJob) (f : PlanFault) (reason reason' : PlanReason) (s : Status) → IsFault (check_of p) f → IsFaultTold f reason reason' s
    → ChecksPlanTo reason reason' p s
fault_told p f reason reason' status.NoMemory cause told = told.1
fault_told p f reason reason' status.PlanRefused (inl none) told = absurd (told.0 none)
fault_told p f reason reason' status.PlanRefused (inr cause) told = record { first = f; named = told.0; cause = cause; told = told.1 }
fault_told p f reason reason' s cause told = absurd told

-- a report is written
pub report_put : (j : Job) (out out' : List OperandEntry) (count count' : ℕ) (reason : Reason) (s : Status) → (report_of j).first ≡ None
    → PutsEntries (report_of j).entries out out' count' s → ReportsJobTo out out' count count' reason reason j s
report_put j out out' count count' reason status.Done valid put = (record { valid = valid; held = put }, refl)
report_put j out out' count count' reason status.TooSmall valid put = (record { valid = valid; small = put }, refl)
report_put j out out' count count' reason s valid put = absurd put

-- the same of a fault, where the layout is a call's
pub faulty : (p : PlannedJob) (layout : FrameLayout) (f : PlanFault) (reason reason' : PlanReason) (s : Status) → layout ≡ p.job.state.layout
    → IsFault (plan_contents layout p.job.function.blocks.items p.plan.blocks.items) f → IsFaultTold f reason reason' s → ChecksPlanTo reason reason' p s
faulty p layout f reason reason' s same cause told =
    fault_told p f reason reason' s (subst (λ l. IsFault (plan_contents l p.job.function.blocks.items p.plan.blocks.items) f) same cause) told

-- a plan without a fault is done
pub faultless : (p : PlannedJob) (layout : FrameLayout) (function : AllocatedFunction) (reason : PlanReason) → layout ≡ p.job.state.layout
    → IsAnswered layout p.job.function p.plan function → EveryWalkReadsAlike p.job.function.blocks.items p.plan.blocks.items
    → ChecksPlanTo reason reason p status.Done
faultless p layout function reason same answered walks =
    (record { faultless = (subst (λ l. IsAnswered l p.job.function p.plan function) same answered).faultless; walks = walks }, refl)

-- where all can be reported and has room, the call is done
pub reports : (out out' : List OperandEntry) (count count' : ℕ) (reason reason' : Reason) (j : Job) (s : Status) → CanBeReported out j
    → ReportsJobTo out out' count count' reason reason' j s → (s ≡ status.Done) ⊎ (s ≡ status.NoMemory)
reports out out' count count' reason reason' j status.Done can ends = inl refl
reports out out' count count' reason reason' j status.Refused can ends = absurd (none-some _ (sym can.valid ∙ ends.0.first))
reports out out' count count' reason reason' j status.NoMemory can ends = inr refl
reports out out' count count' reason reason' j status.TooSmall can ends = absurd (omega (arith, can.room, ends.0.small.lacks))
reports out out' count count' reason reason' j s can ends = absurd ends

-- what is all right isn't an error
ok_not_err : {T E : Type 0} (r : Result T E) (e : E) → IsOk r → r ≡ Err e → ⊥
ok_not_err r e ok err = true≢false (sym (subst IsOk err ok))

-- a plan without a fault is done
pub checks : (reason reason' : PlanReason) (p : PlannedJob) (s : Status) → HasNoFault p → ChecksPlanTo reason reason' p s
    → (s ≡ status.Done) ⊎ (s ≡ status.NoMemory)
checks reason reason' p status.Done valid ends = inl refl
checks reason reason' p status.NoMemory valid ends = inr refl
checks reason reason' p status.PlanRefused valid ends = absurd (ok_not_err (check_of p) ends.first valid ends.cause)
checks reason reason' p s valid ends = absurd ends

pub reports_completed : (input : List ℕ) (out out' : List OperandEntry) (count count' : ℕ) (reason reason' : Reason) (number : ℕ)
    → IsOperandsCall input out out' count count' reason reason' number → IsReported input out → (number ≡ 0) ⊎ (number ≡ 9)
reports_completed input out out' count count' reason reason' number so it =
    job_completed input reason reason' (NoEntryIsWritten out out' count count') (ReportsJobTo out out' count count' reason reason') (CanBeReported out) number
    (reports out out' count count' reason reason') so it

pub check_completed : (input : List ℕ) (reason reason' : PlanReason) (number : ℕ)
    → IsCheckPlanCall input reason reason' number → IsChecked input → (number ≡ 0) ⊎ (number ≡ 9)
check_completed input reason reason' number so it =
    completed input IsPlannedText IsFirstWrongOfPlanned at_plan_line reason' (IsPlannedOf input) (Unit {0}) (reason' ≡ reason) (ChecksPlanTo reason reason')
    HasNoFault number (checks reason reason') so it
