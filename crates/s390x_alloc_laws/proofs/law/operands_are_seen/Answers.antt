use Rattle.s390x_alloc_laws.proofs.Seeing.{operands_seen}
use Rattle.s390x_alloc_laws.proofs.law.operands_are_seen.Goals as goal

pub returns : goal.returns
returns c = operands_seen
