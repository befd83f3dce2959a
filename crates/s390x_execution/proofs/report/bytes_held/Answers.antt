use Rattle.s390x_execution.proofs.Reporting.{bytes_more}
use Rattle.s390x_execution.proofs.report.bytes_held.Goals as goal

pub loop-i-preserved : goal.loop-i-preserved
loop-i-preserved g c =
    bytes_more (g.M.Memory.byte c.args.memory.now) c.args.address c.loop-i.i c.args.count c.get.result _ _ _ c.loop-i-test.true c.in_ok-push.ensures.items c.get.ensures c.loop-i.invariant
