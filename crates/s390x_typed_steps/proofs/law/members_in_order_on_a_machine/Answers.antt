use Rattle.s390x_typed_steps.proofs.Baseline.{for_prepend_cause}
use Rattle.s390x_typed_steps.proofs.law.members_in_order_on_a_machine.Goals as goal

pub returns : goal.returns
returns c = for_prepend_cause
