use Rattle.s390x_machine.proofs.Aligned.{on_boundary}
use Rattle.s390x_machine.proofs.law.relative_accesses_are_aligned.Goals as goal

pub returns : goal.returns
returns c = on_boundary
