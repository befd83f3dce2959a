use Rattle.s390x_machine.proofs.Instructions.{return_holds}
use Rattle.s390x_machine.proofs.law.every_return_run.Goals as goal

pub returns : goal.returns
returns c = return_holds
