use Rattle.s390x_c_allocation.proofs.Answering.{faultless}
use Rattle.s390x_c_allocation.proofs.plan.check_planned.Goals as goal

pub returns-in-Ok : goal.returns-in-Ok
returns-in-Ok c =
    faultless c.args.planned.now _ _ c.args.reason.now c.frame_layout.ensures c.in-Ok.ensures.answer c.in-Ok.ensures.walks
