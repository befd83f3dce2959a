use Rattle.std.proofs.Common.{refl}
use Rattle.s390x_machine.proofs.VectorSums.{sums}
use Rattle.s390x_machine.proofs.elements_step.sum_of_doublewords.Goals as goal

pub returns : goal.returns
returns c first fourth = sums first c.args.x c.args.y fourth _ _ c.ranges.x.fits c.ranges.y.fits refl refl
