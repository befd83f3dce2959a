use Rattle.std.proofs.Common.{arith, append_assoc, ◌<◌, ◌≤◌, ◌^◌}
use Rattle.s390x_text_rows.proofs.Digits.{ten_thousands}
use Rattle.s390x_text_rows.proofs.piece.+put_natural.Goals as goal

pub returns : goal.returns
returns t c =
    let a : 10000 ≤ c.args.n = omega arith in
    let b : c.args.n < 2 ^ 64 = omega (arith, c.ranges.n.fits) in
    let e = ten_thousands c.args.n a b in
    grind (arith, e, append_assoc)

pub returns-then-n-lt100000000 : goal.returns-then-n-lt100000000
returns-then-n-lt100000000 t c =
    let a : 10000 ≤ c.args.n = omega arith in
    let b : c.args.n < 2 ^ 64 = omega (arith, c.ranges.n.fits) in
    let e = ten_thousands c.args.n a b in
    grind (arith, e, append_assoc)
