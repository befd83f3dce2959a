-- A job with another function, and that a plan's answer makes one.
use Rattle.std.specs.Prelude.{◌≡◌}
use Rattle.s390x_inst.specs.declared.function.AllocatedFunction.{AllocatedFunction}
use Rattle.s390x_job.specs.Jobs.{IsJob, text_of_job}
use Rattle.s390x_job.specs.Same.{SameJob}
use Rattle.s390x_job.specs.declared.job.Job.{Job}
use Rattle.s390x_alloc.specs.Answered.{IsAnswered}
use Rattle.s390x_job_plan.specs.Text.{IsPlanned}
use Rattle.s390x_job_plan.specs.declared.planned_job.PlannedJob.{PlannedJob}

-- the job, with this function in place of its own
abbrev pub with_function : Job → AllocatedFunction → Job
with_function j function = record { function = function; info = j.info; conv = j.conv; state = j.state; symbols = j.symbols; registers = j.registers; memory = j.memory }

-- the function that a plan gives makes the job one that keeps the order and the limits of jobs
abbrev pub AnsweredIsJob : Type 0
AnsweredIsJob = (p : PlannedJob) (function : AllocatedFunction) → IsPlanned p → IsAnswered p.job.state.layout p.job.function p.plan function → IsJob (with_function p.job function)

-- and no other job has its text, up to equal lines, so that the text is read as that job
abbrev pub AnsweredIsReadBack : Type 0
AnsweredIsReadBack =
    (p : PlannedJob) (function : AllocatedFunction) → IsPlanned p → IsAnswered p.job.state.layout p.job.function p.plan function →
    (j : Job) → IsJob j → text_of_job j ≡ text_of_job (with_function p.job function) → SameJob j (with_function p.job function)
