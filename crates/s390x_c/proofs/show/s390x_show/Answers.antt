use Rattle.s390x_c.proofs.Completing.{show_completed}
use Rattle.s390x_c.proofs.show.s390x_show.Goals as goal

pub returns-clause-answer : goal.returns-clause-answer
returns-clause-answer c = record { ended = c.show.result; numbered = c.number.ensures; so = c.show.ensures }

pub returns-clause-complete : goal.returns-clause-complete
returns-clause-complete c =
    show_completed c.args.input.now c.args.out.now c.show.new.out c.args.count.now c.show.new.count c.args.reason.now c.show.new.reason _
    (record { ended = c.show.result; numbered = c.number.ensures; so = c.show.ensures })
