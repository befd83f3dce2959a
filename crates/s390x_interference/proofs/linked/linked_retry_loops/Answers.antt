use Rattle.s390x_interference.proofs.LinkedLoops.{linked_guards}
use Rattle.s390x_interference.proofs.linked.linked_retry_loops.Goals as goal

pub returns : goal.returns
returns c = linked_guards
