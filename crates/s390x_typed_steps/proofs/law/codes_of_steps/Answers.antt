use Rattle.s390x_typed_steps.proofs.Traps.{step_codes}
use Rattle.s390x_typed_steps.proofs.law.codes_of_steps.Goals as goal

pub returns : goal.returns
returns c = step_codes
