use Rattle.s390x_job_plan.proofs.AnsweredJobs.{answered_job}
use Rattle.s390x_job_plan.proofs.allocated_jobs.answered_jobs_are_jobs.Goals as goal

pub returns : goal.returns
returns c = answered_job
