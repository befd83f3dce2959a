use Rattle.s390x_job_plan.proofs.Example.{some_lines_are_text}
use Rattle.s390x_job_plan.proofs.law.some_lines_are_text.Goals as goal

pub returns : goal.returns
returns c = some_lines_are_text
