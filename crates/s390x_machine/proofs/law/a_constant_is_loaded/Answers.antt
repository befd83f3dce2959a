use Rattle.s390x_machine.proofs.RelativeExample.{relative_runs}
use Rattle.s390x_machine.proofs.law.a_constant_is_loaded.Goals as goal

pub returns : goal.returns
returns c = relative_runs
