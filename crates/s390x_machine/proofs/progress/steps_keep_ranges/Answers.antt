use Rattle.s390x_machine.proofs.Keeping.{step_keeps}
use Rattle.s390x_machine.proofs.progress.steps_keep_ranges.Goals as goal

pub returns : goal.returns
returns c = step_keeps
