use Rattle.std.proofs.Common.{arith}
use Rattle.s390x_job_exact.proofs.Numbers.{first_digit, next_digit}
use Rattle.s390x_job_exact.proofs.number.natural.Goals as goal

pub loop-number-init : goal.loop-number-init
loop-number-init c =
    let e = c.in_ok-first.ensures in
    first_digit _ _ _ e.0 e.1

pub loop-number-preserved : goal.loop-number-preserved
loop-number-preserved c =
    let e = c.in-Some.ensures in
    let n = c.loop-number.number in
    next_digit _ n _ c.in-Some.next.number _ (omega (arith, c.loop-number-test.true)) e.0 (omega (arith, c.loop-number-test.true, c.if-number-lt-LIMIT.true, e.0)) c.loop-number.invariant e.1
