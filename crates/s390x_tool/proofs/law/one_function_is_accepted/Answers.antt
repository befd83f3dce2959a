use Rattle.s390x_tool.proofs.Example.{function_accepted}
use Rattle.s390x_tool.proofs.law.one_function_is_accepted.Goals as goal

pub returns : goal.returns
returns c = function_accepted
