use Rattle.std.proofs.Common.{arith, ◌<◌, ◌∙◌}
use Rattle.s390x_lanes.proofs.Signed.{unsigned_quotient, unsigned_remainder, signed_quotient, signed_remainder}
use Rattle.s390x_lanes.proofs.products.divide.Goals as goal

pub returns-in-Unsigned-clause-value : goal.returns-in-Unsigned-clause-value
returns-in-Unsigned-clause-value c =
    let h : 0 < c.args.y = omega arith in rw (c.in-Quotient.is, c.in-Unsigned.is) (unsigned_quotient c.args.w c.args.x c.args.y c.requires.x_fits h)

pub returns-in-Signed-clause-value : goal.returns-in-Signed-clause-value
returns-in-Signed-clause-value c =
    let h : 0 < c.args.y = omega arith in
    rw (c.in-Quotient.is, c.in-Signed.is)
    (c.quotient_signed.ensures.value ∙ signed_quotient c.args.w c.args.x c.args.y c.requires.low c.requires.x_fits c.requires.y_fits h)

pub returns-in-Unsigned-sign-clause-value : goal.returns-in-Unsigned-sign-clause-value
returns-in-Unsigned-sign-clause-value c =
    let h : 0 < c.args.y = omega arith in rw (c.in-Remainder.is, c.in-Unsigned-sign.is) (unsigned_remainder c.args.w c.args.x c.args.y c.requires.x_fits h)

pub returns-in-Signed-sign-clause-value : goal.returns-in-Signed-sign-clause-value
returns-in-Signed-sign-clause-value c =
    let h : 0 < c.args.y = omega arith in
    rw (c.in-Remainder.is, c.in-Signed-sign.is)
    (c.remainder_signed.ensures.value ∙ signed_remainder c.args.w c.args.x c.args.y c.requires.low c.requires.x_fits c.requires.y_fits h)
