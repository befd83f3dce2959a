use Rattle.s390x_job_lines.proofs.Contents.{same_contents}
use Rattle.s390x_job_lines.proofs.law.lines_tell_instructions.Goals as goal

pub returns : goal.returns
returns c = same_contents
