use Rattle.s390x_c_allocation.proofs.Answering.{check_completed}
use Rattle.s390x_c.proofs.check_plan.s390x_check_plan.Goals as goal

pub returns-clause-answer : goal.returns-clause-answer
returns-clause-answer c = record { ended = c.checked_plan.result; numbered = c.number.ensures; so = c.checked_plan.ensures }

pub returns-clause-complete : goal.returns-clause-complete
returns-clause-complete c =
    check_completed c.args.input.now c.args.reason.now c.checked_plan.new.reason _
    (record { ended = c.checked_plan.result; numbered = c.number.ensures; so = c.checked_plan.ensures })
