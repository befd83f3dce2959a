use Rattle.std.proofs.Common.{◌^◌, pos, neg_ℤ, ◌≤ℤ◌, ◌<ℤ◌, ℤ, ◌*ℤ◌, FitsSigned, arith, ◌≤◌, lit<}
use Rattle.std.specs.Prelude.{unsigned_abs}
use Rattle.std.specs.Int.{w128}
use Rattle.std.proofs.lemmas.Int.{ints, to_z-of_z, fits_signed_mul}
use Rattle.s390x_operations.proofs.signed_values.exact_result.Goals as goal

abs_bound : (z : ℤ) → neg_ℤ (pos (2 ^ 63)) ≤ℤ z → z <ℤ pos (2 ^ 63) → unsigned_abs z ≤ 2 ^ 63
abs_bound z l m = grind (arith, ints)

product_fits : (x y : ℤ) → unsigned_abs x ≤ 2 ^ 63 → unsigned_abs y ≤ 2 ^ 63 → FitsSigned w128 (x *ℤ y)
product_fits x y l m = fits_signed_mul w128 x y (2 ^ 63) (2 ^ 63) l m (lit< tt)

pub returns-in-Multiply : goal.returns-in-Multiply
returns-in-Multiply c =
    let x = c.ranges.x in
    let y = c.ranges.y in
    let f = product_fits c.args.x c.args.y (abs_bound c.args.x c.requires.x_least c.requires.x_most) (abs_bound c.args.y c.requires.y_least c.requires.y_most) in
    rw c.in-Multiply.is (simp to_z-of_z)
