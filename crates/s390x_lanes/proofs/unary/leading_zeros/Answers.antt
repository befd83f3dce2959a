use Rattle.std.proofs.Common.{arith}
use Rattle.s390x_lanes.proofs.Counting.{leading_at}
use Rattle.s390x_lanes.proofs.unary.leading_zeros.Goals as goal

pub overflow_sub-result-2 : goal.overflow_sub-result-2
overflow_sub-result-2 c = omega (arith, leading_at c.args.w 128 c.args.x c.requires.high c.requires.fits)

pub returns : goal.returns
returns c = omega (arith, leading_at c.args.w 128 c.args.x c.requires.high c.requires.fits)
