use Rattle.std.proofs.Common.{arith, append_assoc, ◌<◌, ◌≤◌, ◌^◌}
use Rattle.std.proofs.lemmas.Fmt.{decimal_digit, decimal_step}
use Rattle.s390x_job_fields.proofs.number.+put_natural.Goals as goal

pub returns-then-n-lt10 : goal.returns-then-n-lt10
returns-then-n-lt10 t c =
    let b : c.args.n < 10 = omega arith in
    grind (arith, decimal_digit c.args.n b)

pub returns : goal.returns
returns t c =
    let a : 10 ≤ c.args.n = omega arith in
    let b : c.args.n < 2 ^ 64 = omega (arith, c.ranges.n.fits) in
    let e = decimal_step c.args.n a b in
    grind (arith, e, append_assoc)
