use Rattle.s390x_alloc_laws.proofs.Stepping.{steps_clear}
use Rattle.s390x_alloc_laws.proofs.law.steps_are_not_blamed.Goals as goal

pub returns : goal.returns
returns c = steps_clear
