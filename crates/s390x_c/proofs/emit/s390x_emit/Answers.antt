use Rattle.s390x_c.proofs.Completing.{emit_completed}
use Rattle.s390x_c.proofs.emit.s390x_emit.Goals as goal

pub returns-clause-answer : goal.returns-clause-answer
returns-clause-answer c = record { ended = c.emit.result; numbered = c.number.ensures; so = c.emit.ensures.answer }

pub returns-clause-complete : goal.returns-clause-complete
returns-clause-complete c =
    emit_completed c.args.input.now c.args.out.now c.emit.new.out c.args.sizes.now c.emit.new.sizes c.args.reason.now c.emit.new.reason _
    (record { ended = c.emit.result; numbered = c.number.ensures; so = c.emit.ensures.answer })
