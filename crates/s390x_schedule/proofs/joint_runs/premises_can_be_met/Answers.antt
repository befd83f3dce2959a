use Rattle.s390x_schedule.proofs.Example.{calls_and_returns}
use Rattle.s390x_schedule.proofs.joint_runs.premises_can_be_met.Goals as goal

pub returns : goal.returns
returns c = calls_and_returns
