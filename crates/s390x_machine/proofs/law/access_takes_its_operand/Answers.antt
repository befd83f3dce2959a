use Rattle.s390x_machine.proofs.Helpers.{operand_taken}
use Rattle.s390x_machine.proofs.law.access_takes_its_operand.Goals as goal

pub returns : goal.returns
returns c = operand_taken
