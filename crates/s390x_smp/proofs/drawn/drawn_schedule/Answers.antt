use Rattle.s390x_smp.proofs.Drawing.{drawn_more}
use Rattle.s390x_smp.proofs.drawn.drawn_schedule.Goals as goal

pub loop-step-preserved : goal.loop-step-preserved
loop-step-preserved c =
    drawn_more c.args.count c.args.steps c.loop-step._step c.loop-step.drawn c.next_number-drawn.result c.loop-step.schedule.items c.push.new.self.items _ c.loop-step-test.true c.next_number-drawn.ensures c.in_ok-push.ensures.items c.loop-step.invariant
