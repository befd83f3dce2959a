use Rattle.s390x_interference.proofs.Schedules.{guarded}
use Rattle.s390x_interference.proofs.law.scheduled_retry_loops.Goals as goal

pub returns : goal.returns
returns c = guarded
