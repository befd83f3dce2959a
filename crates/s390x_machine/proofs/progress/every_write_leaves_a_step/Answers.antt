use Rattle.s390x_machine.proofs.Steps.{written_steps}
use Rattle.s390x_machine.proofs.progress.every_write_leaves_a_step.Goals as goal

pub returns : goal.returns
returns c = written_steps
