use Rattle.s390x_interference.proofs.RegisterWork.{register_work}
use Rattle.s390x_interference.proofs.law.listed_instructions_are_register_work.Goals as goal

pub returns : goal.returns
returns c = register_work
