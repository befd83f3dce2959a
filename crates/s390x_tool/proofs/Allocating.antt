-- The answer to words that ask for a job with the registers of a plan.
use Rattle.std.proofs.Common.{◌≡◌, ℕ, inl, inr, Global, List, String, ◌∙◌}
use Rattle.std.specs.Prelude.{codes, ◌≢◌, IfOk, MatchResult, Result, Ok, Err, string_bytes}
use Rattle.s390x_alloc.specs.Answered.{IsAnswered}
use Rattle.s390x_job_plan.specs.Jobs.{AnsweredIsJob, with_function}
use Rattle.s390x_alloc.specs.Blocks.{IsFault}
use Rattle.s390x_alloc.specs.Checked.{plan_contents}
use Rattle.s390x_alloc.specs.Walks.{EveryWalkReadsAlike}
use Rattle.s390x_alloc.specs.declared.fault.PlanFault.{PlanFault}
use Rattle.s390x_alloc.specs.declared.fault.PlanFault.TheVariants as fault
use Rattle.s390x_base.specs.declared.error.NoMemory.{NoMemory}
use Rattle.s390x_inst.specs.declared.function.AllocatedFunction.{AllocatedFunction}
use Rattle.s390x_job.specs.Jobs.{text_of_job}
use Rattle.s390x_job_plan.specs.Text.{IsPlannedOf}
use Rattle.s390x_job_plan.specs.declared.planned_job.PlannedJob.{PlannedJob}
use Rattle.s390x_tool.specs.Allocated.{IsAllocateAnswer, IsPlanRefusal, fault_line}
use Rattle.s390x_tool.specs.Lines.{IsMade, line}
use Rattle.s390x_tool.specs.declared.status.Status.{Status}
use Rattle.s390x_tool.specs.declared.status.Status.TheVariants as status

-- a line that tells a fault is the reply to a plan with it
pub refusal_told : (f : PlanFault) (s : Status) (text : List ℕ) → f ≢ fault.NoMemory → IsMade status.PlanRefused (fault_line f) s text → IsPlanRefusal f s text
refusal_told f s text named (inl made) = inl (named, made.0, made.1)
refusal_told f s text named (inr short) = inr short

-- the text of the job with the plan's function is the answer
pub answer_of_plan : (input : List ℕ) (s : Status) (text : List ℕ) (p : PlannedJob) (function : AllocatedFunction) (printed : Result (String Global) NoMemory) → AnsweredIsJob → IsPlannedOf input p
    → IsAnswered p.job.state.layout p.job.function p.plan function → EveryWalkReadsAlike p.job.function.blocks.items p.plan.blocks.items
    → IfOk printed (λ t. string_bytes t ≡ text_of_job (with_function p.job function))
    → MatchResult printed (λ t. (s ≡ status.Ok) × (text ≡ string_bytes t)) (λ _. (s ≡ status.NoMemory) × (text ≡ line (codes "no memory"))) → IsAllocateAnswer input s text
answer_of_plan input s text p function (Ok t) law is answered walks printed told =
    rw told.0 (record { planned = p; is = is; function = function; answered = answered; walks = walks; job = law p function is.is answered; spelled = told.1 ∙ printed })
answer_of_plan input s text p function (Err e) law is answered walks printed told = rw told.0 told.1

-- the plan's first fault is the answer
pub answer_of_fault : (input : List ℕ) (s : Status) (text : List ℕ) (p : PlannedJob) (f : PlanFault) → IsPlannedOf input p
    → IsFault (plan_contents p.job.state.layout p.job.function.blocks.items p.plan.blocks.items) f → IsPlanRefusal f s text → IsAllocateAnswer input s text
answer_of_fault input s text p f is (inl none) (inl told) = absurd (told.0 none)
answer_of_fault input s text p f is (inr cause) (inl told) = rw told.1 (record { planned = p; is = is; first = f; named = told.0; cause = cause; spelled = told.2 })
answer_of_fault input s text p f is cause (inr short) = rw short.0 short.1
