use Rattle.s390x_smp.proofs.Starting.{one_more}
use Rattle.s390x_smp.proofs.smp.started_machines.Goals as goal

pub loop-number-preserved : goal.loop-number-preserved
loop-number-preserved c = one_more c.args.base c.args.word c.args.addends.now c.loop-number.machines.items c.push.new.self.items c.started_machine.result c.loop-number.number c.in_ok-push.ensures.items c.loop-number.invariant c.started_machine.ensures
