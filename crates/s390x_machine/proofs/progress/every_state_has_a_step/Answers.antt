use Rattle.s390x_machine.proofs.Steps.{state_steps}
use Rattle.s390x_machine.proofs.progress.every_state_has_a_step.Goals as goal

pub returns : goal.returns
returns c = state_steps
