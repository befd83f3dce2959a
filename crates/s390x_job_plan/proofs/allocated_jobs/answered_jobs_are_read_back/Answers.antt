use Rattle.s390x_job_plan.specs.Jobs.{with_function}
use Rattle.s390x_job_plan.proofs.AnsweredJobs.{answered_job}
use Rattle.s390x_job.proofs.Whole.{one_job}
use Rattle.s390x_job_plan.proofs.allocated_jobs.answered_jobs_are_read_back.Goals as goal

pub returns : goal.returns
returns c p function is answer j a e = one_job j (with_function p.job function) a (answered_job p function is answer) e
