use Rattle.s390x_c.proofs.Completing.{image_completed}
use Rattle.s390x_c.proofs.image.s390x_image.Goals as goal

pub returns-clause-answer : goal.returns-clause-answer
returns-clause-answer c = record { ended = c.image.result; numbered = c.number.ensures; so = c.image.ensures }

pub returns-clause-complete : goal.returns-clause-complete
returns-clause-complete c =
    image_completed c.args.base c.args.input.now c.args.out.now c.image.new.out c.args.count.now c.image.new.count c.args.reason.now c.image.new.reason
    _ (record { ended = c.image.result; numbered = c.number.ensures; so = c.image.ensures })
