use Rattle.s390x_buffer.proofs.Sums.{sums}
use Rattle.s390x_buffer.proofs.law.sums_stand.Goals as goal

pub returns : goal.returns
returns c = sums
