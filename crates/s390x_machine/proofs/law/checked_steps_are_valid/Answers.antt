use Rattle.s390x_machine.proofs.Checked.{checked_steps}
use Rattle.s390x_machine.proofs.law.checked_steps_are_valid.Goals as goal

pub returns : goal.returns
returns c = checked_steps
