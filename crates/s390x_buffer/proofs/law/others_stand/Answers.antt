use Rattle.s390x_buffer.proofs.Sums.{others}
use Rattle.s390x_buffer.proofs.law.others_stand.Goals as goal

pub returns : goal.returns
returns c = others
