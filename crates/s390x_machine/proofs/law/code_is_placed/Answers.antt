use Rattle.s390x_machine.proofs.Functions.{function_placed}
use Rattle.s390x_machine.proofs.law.code_is_placed.Goals as goal

pub returns : goal.returns
returns c = function_placed
