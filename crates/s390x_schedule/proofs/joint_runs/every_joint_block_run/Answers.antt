use Rattle.s390x_schedule.proofs.JointInduction.{joint_block_runs}
use Rattle.s390x_schedule.proofs.joint_runs.every_joint_block_run.Goals as goal

pub returns : goal.returns
returns c = joint_block_runs
