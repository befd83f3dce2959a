use Rattle.std.proofs.Common.{arith, append_assoc, ◌<◌, ◌≤◌}
use Rattle.std.proofs.lemmas.Fmt.{decimal_digit}
use Rattle.s390x_listing.proofs.Lines.{from_ten}
use Rattle.s390x_listing.proofs.members.put_general_register.Goals as goal

pub returns-then-n-lt10 : goal.returns-then-n-lt10
returns-then-n-lt10 c =
    let b : c.args.n < 10 = omega arith in
    grind (arith, decimal_digit c.args.n b, append_assoc)

pub returns : goal.returns
returns c =
    let a : 10 ≤ c.args.n = omega arith in
    let b : c.args.n < 20 = omega (arith, c.requires) in
    let e = from_ten c.args.n a b in
    grind (arith, e, append_assoc)
