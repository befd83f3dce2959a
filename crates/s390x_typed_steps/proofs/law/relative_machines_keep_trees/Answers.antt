use Rattle.s390x_typed_steps.proofs.Baseline.{for_relative_machine}
use Rattle.s390x_typed_steps.proofs.law.relative_machines_keep_trees.Goals as goal

pub returns : goal.returns
returns c = for_relative_machine
