use Rattle.s390x_machine.proofs.Instructions.{block_holds}
use Rattle.s390x_machine.proofs.law.every_block_run.Goals as goal

pub returns : goal.returns
returns c = block_holds
