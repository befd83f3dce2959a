use Rattle.s390x_machine.proofs.Keeping.{writes_have_run}
use Rattle.s390x_machine.proofs.progress.all_writes_have_a_run.Goals as goal

pub returns : goal.returns
returns c = writes_have_run
