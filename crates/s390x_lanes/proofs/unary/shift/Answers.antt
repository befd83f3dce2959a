use Rattle.std.proofs.Common.{arith, ap₂, ◌/◌, ◌-◌, ◌^◌, ◌<◌, bit_or, ◌∙◌}
use Rattle.std.proofs.lemmas.Nat.{or_lt, shr_le}
use Rattle.s390x_lanes.proofs.Powers.{masked_128, masked_lt, shr_twice}
use Rattle.s390x_lanes.proofs.Signed.{shifted_right_is}
use Rattle.s390x_lanes.proofs.unary.shift.Goals as goal

pub returns-in-RotateLeft-clause-value : goal.returns-in-RotateLeft-clause-value
returns-in-RotateLeft-clause-value c = rw c.in-RotateLeft.is (ap₂ bit_or (masked_128 c.args.w _ _ c.requires.high c.ones-all.ensures) (shr_twice c.args.w c.args.amount c.args.x c.requires.below))

pub returns-in-RotateLeft-clause-fits : goal.returns-in-RotateLeft-clause-fits
returns-in-RotateLeft-clause-fits c =
    let h : c.args.x / 2 ^ (c.args.w - c.args.amount - 1) / 2 < 2 ^ c.args.w = omega (arith, shr_le c.args.x (c.args.w - c.args.amount - 1)) in
    or_lt c.args.w _ _ (masked_lt c.args.w _ _ c.ones-all.ensures) h

pub returns-in-ShiftLeft-clause-value : goal.returns-in-ShiftLeft-clause-value
returns-in-ShiftLeft-clause-value c = rw c.in-ShiftLeft.is (masked_128 c.args.w _ _ c.requires.high c.ones-all.ensures)

pub returns-in-ShiftRightArithmetic-clause-value : goal.returns-in-ShiftRightArithmetic-clause-value
returns-in-ShiftRightArithmetic-clause-value c =
    rw c.in-ShiftRightArithmetic.is (c.shift_right_signed.ensures.value ∙ shifted_right_is c.args.w c.args.x c.args.amount c.requires.fits)
