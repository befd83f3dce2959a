use Rattle.s390x_alloc.specs.Steps.{IsCause, after_step}
use Rattle.s390x_alloc.proofs.Deciding.{again, step_unreported}
use Rattle.s390x_alloc.proofs.step.check_step.Goals as goal

pub returns-in_err-list : goal.returns-in_err-list
returns-in_err-list c = λ list is.
    again _ (IsCause (after_step c.args.inst.now c.args.regs.now list)) c.from_residual.result _ c.from_residual.ensures.1
    (step_unreported c.args.inst.now c.args.regs.now list _ c.in_err-list.ensures)
