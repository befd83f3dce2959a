use Rattle.s390x_tool.proofs.PlanExample.{plan_accepted}
use Rattle.s390x_tool.proofs.law.one_step_is_accepted.Goals as goal

pub returns : goal.returns
returns c = plan_accepted
