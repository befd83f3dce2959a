use Rattle.s390x_schedule.proofs.JointInduction.{joint_return_runs}
use Rattle.s390x_schedule.proofs.joint_runs.every_joint_return_run.Goals as goal

pub returns : goal.returns
returns c = joint_return_runs
