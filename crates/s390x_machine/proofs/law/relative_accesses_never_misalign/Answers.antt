use Rattle.s390x_machine.proofs.Aligned.{never_misaligned}
use Rattle.s390x_machine.proofs.law.relative_accesses_never_misalign.Goals as goal

pub returns : goal.returns
returns c = never_misaligned
