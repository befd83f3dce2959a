use Rattle.s390x_job.proofs.Whole.{same-job}
use Rattle.s390x_job.proofs.lines.read_lines.Goals as goal

pub returns-clause-one : goal.returns-clause-one
returns-clause-one c = same-job c.args.bytes.now c.read_all.result c.read_all.ensures.job
