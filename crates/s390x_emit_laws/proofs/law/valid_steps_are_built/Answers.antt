use Rattle.s390x_emit_laws.proofs.Built.{built}
use Rattle.s390x_emit_laws.proofs.law.valid_steps_are_built.Goals as goal

pub returns : goal.returns
returns c = built
