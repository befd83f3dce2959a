use Rattle.s390x_alloc.proofs.Example.{spill_is_accepted}
use Rattle.s390x_alloc.proofs.law.some_plan_is_accepted.Goals as goal

pub returns : goal.returns
returns c = spill_is_accepted
