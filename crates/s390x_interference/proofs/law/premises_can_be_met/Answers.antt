use Rattle.s390x_interference.proofs.SharedLoop.{shared}
use Rattle.s390x_interference.proofs.law.premises_can_be_met.Goals as goal

pub returns : goal.returns
returns c = shared
