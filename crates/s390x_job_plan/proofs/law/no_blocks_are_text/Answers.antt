use Rattle.s390x_job_plan.proofs.Example.{no_blocks_are_text}
use Rattle.s390x_job_plan.proofs.law.no_blocks_are_text.Goals as goal

pub returns : goal.returns
returns c = no_blocks_are_text
