use Rattle.s390x_machine.proofs.ProgressExample.{in_range}
use Rattle.s390x_machine.proofs.progress.a_state_is_in_range.Goals as goal

pub returns : goal.returns
returns c = in_range
