use Rattle.s390x_alloc_laws.proofs.Moving.{moves_clear}
use Rattle.s390x_alloc_laws.proofs.law.moves_are_not_blamed.Goals as goal

pub returns : goal.returns
returns c = moves_clear
