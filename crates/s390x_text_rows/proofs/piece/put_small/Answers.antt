use Rattle.std.proofs.Common.{arith, ap, ◌++◌, ◌∙◌, ◌<◌, ◌≤◌}
use Rattle.std.proofs.lemmas.Fmt.{decimal_digit}
use Rattle.s390x_text_rows.proofs.Digits.{two_digits}
use Rattle.s390x_text_rows.proofs.piece.put_small.Goals as goal

pub returns-then-n-lt10 : goal.returns-then-n-lt10
returns-then-n-lt10 c =
    let b : c.args.n < 10 = omega arith in
    grind (arith, decimal_digit c.args.n b)

pub returns : goal.returns
returns c =
    let a : 10 ≤ c.args.n = omega arith in
    let b : c.args.n < 100 = omega arith in
    let e = two_digits c.args.n a b in
    grind (arith, e)
