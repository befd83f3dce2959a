use Rattle.s390x_interference.proofs.LinkedLoops.{image_guards}
use Rattle.s390x_interference.proofs.linked.image_retry_loops.Goals as goal

pub returns : goal.returns
returns c = image_guards
