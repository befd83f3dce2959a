use Rattle.std.proofs.Common.{◌<◌, length, get_or, sym, ap, subst}
use Rattle.s390x_schedule.proofs.Going.{named_at}
use Rattle.s390x_smp.specs.View.{simulation}
use Rattle.s390x_smp.proofs.Stepping.{runs_more}
use Rattle.s390x_smp.proofs.smp.Smp.run.Goals as goal

pub step-requires : goal.step-requires
step-requires c =
    subst (λ n. get_or c.args.schedule.now c.loop-at.at 0 < n) (sym (ap length c.loop-at.invariant.addends_are))
    (named_at (length c.args.self.now.addends.items) c.args.schedule.now c.loop-at.at c.requires c.loop-at-test.true)

pub loop-at-preserved : goal.loop-at-preserved
loop-at-preserved c =
    runs_more (simulation c.args.self.now) (simulation c.loop-at.self) (simulation c.step.new.self) c.args.schedule.now c.loop-at.at c.loop-at-test.true c.loop-at.invariant c.step.ensures.runs
