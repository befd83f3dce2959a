use Rattle.s390x_interference.proofs.Loops.{folded_retry}
use Rattle.s390x_interference.proofs.law.folded_loops_are_retry_loops.Goals as goal

pub returns : goal.returns
returns c = folded_retry
