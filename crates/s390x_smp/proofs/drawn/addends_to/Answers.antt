use Rattle.s390x_smp.proofs.Drawing.{addend_more}
use Rattle.s390x_smp.proofs.drawn.addends_to.Goals as goal

pub loop-number-preserved : goal.loop-number-preserved
loop-number-preserved c = addend_more c.args.count c.loop-number.number c.loop-number.addends.items c.push.new.self.items _ c.loop-number-test.true c.in_ok-push.ensures.items c.loop-number.invariant
