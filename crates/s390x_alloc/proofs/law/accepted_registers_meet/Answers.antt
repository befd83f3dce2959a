use Rattle.s390x_alloc.proofs.Meeting.{registers_meet}
use Rattle.s390x_alloc.proofs.law.accepted_registers_meet.Goals as goal

pub returns : goal.returns
returns c = registers_meet
