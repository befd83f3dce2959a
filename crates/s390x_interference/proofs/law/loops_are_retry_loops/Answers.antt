use Rattle.s390x_interference.proofs.Loops.{retry_in}
use Rattle.s390x_interference.proofs.law.loops_are_retry_loops.Goals as goal

pub returns : goal.returns
returns c = retry_in
