use Rattle.s390x_c.proofs.Completing.{bundle_completed}
use Rattle.s390x_c.proofs.bundle.s390x_bundle.Goals as goal

pub returns-clause-answer : goal.returns-clause-answer
returns-clause-answer c = record { ended = c.bundle_status.result; numbered = c.number.ensures; so = c.bundle_status.ensures }

pub returns-clause-complete : goal.returns-clause-complete
returns-clause-complete c =
    bundle_completed c.args.base c.args.input.now c.args.out.now c.bundle_status.new.out c.args.count.now c.bundle_status.new.count c.args.reason.now c.bundle_status.new.reason
    _ (record { ended = c.bundle_status.result; numbered = c.number.ensures; so = c.bundle_status.ensures })
