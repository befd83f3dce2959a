use Rattle.s390x_tool.proofs.JobExample.{job_accepted}
use Rattle.s390x_tool.proofs.law.one_job_is_accepted.Goals as goal

pub returns : goal.returns
returns c = job_accepted
