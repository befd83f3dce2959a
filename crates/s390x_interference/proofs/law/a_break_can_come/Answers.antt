use Rattle.s390x_interference.proofs.LeavingLoop.{left_loop}
use Rattle.s390x_interference.proofs.law.a_break_can_come.Goals as goal

pub returns : goal.returns
returns c = left_loop
