use Rattle.s390x_machine.proofs.Checked.{folded_steps}
use Rattle.s390x_machine.proofs.FoldedSteps.{folded_right}
use Rattle.s390x_machine.proofs.law.folded_steps_are_valid.Goals as goal

pub returns-clause-valid : goal.returns-clause-valid
returns-clause-valid c = folded_steps

pub returns-clause-folded : goal.returns-clause-folded
returns-clause-folded c = folded_right
