use Rattle.s390x_machine.proofs.Instructions.{step_holds}
use Rattle.s390x_machine.proofs.law.each_step.Goals as goal

pub returns : goal.returns
returns c = step_holds
