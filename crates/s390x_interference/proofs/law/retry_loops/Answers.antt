use Rattle.s390x_interference.proofs.Schedules.{interference}
use Rattle.s390x_interference.proofs.law.retry_loops.Goals as goal

pub returns : goal.returns
returns c = interference
