use Rattle.std.proofs.Common.{arith, Ok}
use Rattle.s390x_operands.specs.Requests.{fixed_general}
use Rattle.s390x_operands.proofs.Looping.{number_turn, number_stop, number_done}
use Rattle.s390x_operands.proofs.multiple.report_numbers.Goals as goal

pub loop-number-preserved : goal.loop-number-preserved
loop-number-preserved g c =
    record { rest = λ n d r h. c.loop-number.invariant.rest n d r (number_turn fixed_general c.loop-number.number c.args.end c.args.denied _ _ _ _ _ _ _ (omega arith) c.in_ok-report_general.ensures h) }

pub returns-in_err-report_general : goal.returns-in_err-report_general
returns-in_err-report_general g c =
    c.loop-number.invariant.rest _ _ c.from_residual.result (number_stop fixed_general c.loop-number.number c.args.end c.args.denied _ _ _ _ _ c.from_residual.result (omega arith) c.from_residual.ensures.1 c.in_err-report_general.ensures)

pub returns : goal.returns
returns g c = c.loop-number.invariant.rest _ _ (Ok tt) (number_done fixed_general c.loop-number.number c.args.end c.args.denied _ _ (omega arith))
