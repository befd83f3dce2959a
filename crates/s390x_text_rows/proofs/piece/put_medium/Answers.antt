use Rattle.std.proofs.Common.{arith, append_assoc, ◌<◌, ◌≤◌, ◌^◌}
use Rattle.s390x_text_rows.proofs.Digits.{hundreds}
use Rattle.s390x_text_rows.proofs.piece.put_medium.Goals as goal

pub returns : goal.returns
returns c =
    let a : 100 ≤ c.args.n = omega arith in
    let b : c.args.n < 2 ^ 64 = omega arith in
    let e = hundreds c.args.n a b in
    grind (arith, e, append_assoc)
