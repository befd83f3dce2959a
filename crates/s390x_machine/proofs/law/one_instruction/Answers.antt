use Rattle.s390x_machine.proofs.Fetching.{one_thing}
use Rattle.s390x_machine.proofs.law.one_instruction.Goals as goal

pub returns : goal.returns
returns c = one_thing
