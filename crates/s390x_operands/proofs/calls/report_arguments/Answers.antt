use Rattle.std.proofs.Common.{arith, Ok}
use Rattle.s390x_operands.specs.Calls.{reported_argument}
use Rattle.s390x_operands.proofs.Looping.{turn, stop, done}
use Rattle.s390x_operands.proofs.calls.report_arguments.Goals as goal

pub loop-pair-preserved : goal.loop-pair-preserved
loop-pair-preserved g c =
    record { rest = λ n d r h. c.loop-pair.invariant.rest n d r (turn reported_argument c.args.pairs.now c.loop-pair.pair-index c.pair-item.result c.args.denied _ _ _ _ _ _ _ (omega arith) c.pair-item.is c.in_ok-report_incoming.ensures h) }

pub returns-in_err-report_incoming : goal.returns-in_err-report_incoming
returns-in_err-report_incoming g c =
    c.loop-pair.invariant.rest _ _ c.from_residual.result (stop reported_argument c.args.pairs.now c.loop-pair.pair-index c.pair-item.result c.args.denied _ _ _ _ _ c.from_residual.result (omega arith) c.pair-item.is c.from_residual.ensures.1 c.in_err-report_incoming.ensures)

pub returns : goal.returns
returns g c = c.loop-pair.invariant.rest _ _ (Ok tt) (done reported_argument c.args.pairs.now c.loop-pair.pair-index c.args.denied _ _ (omega arith))
