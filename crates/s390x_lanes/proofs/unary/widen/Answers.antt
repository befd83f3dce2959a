use Rattle.std.proofs.Common.{arith, sym, ◌*◌, ◌∙◌, ◌^◌, ◌<◌, ◌≤◌}
use Rattle.std.proofs.Math.Nat.{mod-eq_of_lt}
use Rattle.s390x_lanes.proofs.Powers.{pow_le}
use Rattle.s390x_lanes.proofs.Signed.{widened-signed}
use Rattle.s390x_lanes.proofs.unary.widen.Goals as goal

pub returns-in-Unsigned-clause-value : goal.returns-in-Unsigned-clause-value
returns-in-Unsigned-clause-value c =
    let h : c.args.x < 2 ^ (2 * c.args.w) = omega (arith, pow_le c.args.w (2 * c.args.w) (omega arith)) in rw c.in-Unsigned.is (sym (mod-eq_of_lt h))

pub returns-in-Unsigned-clause-fits : goal.returns-in-Unsigned-clause-fits
returns-in-Unsigned-clause-fits c = omega (arith, pow_le c.args.w (2 * c.args.w) (omega arith))

pub returns-in-Signed-clause-value : goal.returns-in-Signed-clause-value
returns-in-Signed-clause-value c =
    let h : c.args.w ≤ 2 * c.args.w = omega arith in
    rw c.in-Signed.is (c.sign_extend.ensures.value ∙ widened-signed c.args.w (2 * c.args.w) c.args.x c.requires.low h c.requires.fits)
