use Rattle.std.proofs.Common.{arith, sym, ◌<◌}
use lib.Count.{trailing_of_zero}
use Rattle.s390x_lanes.proofs.Counting.{trailing_at}
use Rattle.s390x_lanes.proofs.unary.trailing_zeros.Goals as goal

pub returns-then-x-eq0 : goal.returns-then-x-eq0
returns-then-x-eq0 c = rw c.if-x-eq0.true (sym (trailing_of_zero c.args.w))

pub returns-else-x-eq0 : goal.returns-else-x-eq0
returns-else-x-eq0 c = let p : 0 < c.args.x = omega arith in trailing_at c.args.w 128 c.args.x c.requires.high p c.requires.fits
