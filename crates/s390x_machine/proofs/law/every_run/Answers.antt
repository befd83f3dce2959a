use Rattle.s390x_machine.proofs.Instructions.{runs_hold}
use Rattle.s390x_machine.proofs.law.every_run.Goals as goal

pub returns : goal.returns
returns c = runs_hold
