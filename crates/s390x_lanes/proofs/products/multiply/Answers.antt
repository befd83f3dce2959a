use Rattle.std.proofs.Common.{arith, sym, ap₂, ℕ, ◌*◌, ◌%◌, ◌^◌, ◌≤◌, ◌∙◌}
use Rattle.std.proofs.Math.Nat.{mod-eq_of_lt}
use Rattle.s390x_lanes.proofs.Powers.{product_lt, masked_128}
use Rattle.s390x_lanes.proofs.Signed.{product_is}
use Rattle.s390x_lanes.proofs.products.multiply.Goals as goal

pub returns-in-Unsigned-clause-value : goal.returns-in-Unsigned-clause-value
returns-in-Unsigned-clause-value c = rw c.in-Unsigned.is (sym (mod-eq_of_lt (product_lt c.args.w c.args.x c.args.y c.requires.x_fits c.requires.y_fits)))

pub returns-in-Unsigned-clause-fits : goal.returns-in-Unsigned-clause-fits
returns-in-Unsigned-clause-fits c = product_lt c.args.w c.args.x c.args.y c.requires.x_fits c.requires.y_fits

pub returns-in-Signed-clause-value : goal.returns-in-Signed-clause-value
returns-in-Signed-clause-value c =
    let h : 2 * c.args.w ≤ 128 = omega arith in
    let k : c.args.w ≤ 2 * c.args.w = omega arith in
    rw c.in-Signed.is
    (masked_128 (2 * c.args.w) _ _ h c.ones.ensures ∙ ap₂ (λ (m n : ℕ). m * n % 2 ^ (2 * c.args.w)) c.sign_extend.ensures.value c.sign_extend-in-Signed.ensures.value
    ∙ product_is c.args.w (2 * c.args.w) c.args.x c.args.y k c.requires.x_fits c.requires.y_fits)
