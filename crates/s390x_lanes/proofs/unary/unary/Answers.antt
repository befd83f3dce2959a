use Rattle.std.proofs.Common.{arith, ◌∙◌, ◌<◌}
use Rattle.std.proofs.lemmas.Nat.{leading_le, trailing_le}
use Rattle.s390x_lanes.proofs.Counting.{width_lt}
use Rattle.s390x_lanes.proofs.Signed.{magnitude_is}
use Rattle.s390x_lanes.proofs.unary.unary.Goals as goal

pub returns-in-LeadingZeros-clause-fits : goal.returns-in-LeadingZeros-clause-fits
returns-in-LeadingZeros-clause-fits c = omega (arith, leading_le c.args.w c.args.x, width_lt c.args.w)

pub returns-in-TrailingZeros-clause-fits : goal.returns-in-TrailingZeros-clause-fits
returns-in-TrailingZeros-clause-fits c = omega (arith, trailing_le c.args.w c.args.x, width_lt c.args.w)

pub returns-in-Abs-clause-value : goal.returns-in-Abs-clause-value
returns-in-Abs-clause-value c =
    let h : 0 < c.args.w = omega arith in rw c.in-Abs.is (c.absolute_value.ensures.value ∙ magnitude_is c.args.w c.args.x h c.requires.fits)
