use Rattle.s390x_emit_laws.proofs.Functions.{function_built}
use Rattle.s390x_emit_laws.proofs.law.functions_are_built.Goals as goal

pub returns : goal.returns
returns c = function_built
