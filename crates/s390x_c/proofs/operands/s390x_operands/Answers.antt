use Rattle.s390x_c_allocation.proofs.Answering.{reports_completed}
use Rattle.s390x_c.proofs.operands.s390x_operands.Goals as goal

pub returns-clause-answer : goal.returns-clause-answer
returns-clause-answer c = record { ended = c.operands.result; numbered = c.number.ensures; so = c.operands.ensures }

pub returns-clause-complete : goal.returns-clause-complete
returns-clause-complete c =
    reports_completed c.args.input.now c.args.out.now c.operands.new.out c.args.count.now c.operands.new.count c.args.reason.now c.operands.new.reason
    _ (record { ended = c.operands.result; numbered = c.number.ensures; so = c.operands.ensures })
