use Rattle.std.proofs.Common.{arith, Ok}
use Rattle.s390x_operands.specs.Requests.{reported_use}
use Rattle.s390x_operands.proofs.Looping.{turn, stop, done}
use Rattle.s390x_operands.proofs.report.report_uses.Goals as goal

pub loop-reg-preserved : goal.loop-reg-preserved
loop-reg-preserved g c =
    record { rest = λ n d r h. c.loop-reg.invariant.rest n d r (turn reported_use c.args.uses.now c.loop-reg.reg-index c.reg-item.result c.args.denied _ _ _ _ _ _ _ (omega arith) c.reg-item.is c.in_ok-report_use.ensures h) }

pub returns-in_err-report_use : goal.returns-in_err-report_use
returns-in_err-report_use g c =
    c.loop-reg.invariant.rest _ _ c.from_residual.result (stop reported_use c.args.uses.now c.loop-reg.reg-index c.reg-item.result c.args.denied _ _ _ _ _ c.from_residual.result (omega arith) c.reg-item.is c.from_residual.ensures.1 c.in_err-report_use.ensures)

pub returns : goal.returns
returns g c = c.loop-reg.invariant.rest _ _ (Ok tt) (done reported_use c.args.uses.now c.loop-reg.reg-index c.args.denied _ _ (omega arith))
