use Rattle.std.proofs.Common.{◌≤◌, map, arith}
use Rattle.s390x_buffer.specs.State.{constant_of}
use Rattle.s390x_buffer.specs.Constants.{constants_end}
use Rattle.std.proofs.lemmas.Bool.Decides.{nat_tests}
use Rattle.s390x_buffer.proofs.Placing.{end-next}
use Rattle.s390x_buffer.proofs.finish.constants_fit.Goals as goal

pub returns-then-next-ge-LIMIT : goal.returns-then-next-ge-LIMIT
returns-then-next-ge-LIMIT c =
    let e = end-next c.loop-c.end c.args.constants.now c.loop-c.c-index c.c-item.result (omega arith) c.c-item.is in
    let far : 2147483648 ≤ constants_end c.args.n (map constant_of c.args.constants.now) = omega (arith, e, c.loop-c.invariant.rest) in
    grind (arith, nat_tests, far)
