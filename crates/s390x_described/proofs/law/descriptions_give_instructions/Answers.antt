use Rattle.s390x_described.proofs.Again.{gives}
use Rattle.s390x_described.proofs.law.descriptions_give_instructions.Goals as goal

pub returns : goal.returns
returns c = gives
