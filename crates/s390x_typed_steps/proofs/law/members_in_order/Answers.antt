use Rattle.s390x_typed_steps.proofs.Causes.{prepend_cause}
use Rattle.s390x_typed_steps.proofs.law.members_in_order.Goals as goal

pub returns : goal.returns
returns c = prepend_cause
