use Rattle.s390x_machine.proofs.Keeping.{run_goes_on}
use Rattle.s390x_machine.proofs.progress.every_run_goes_on.Goals as goal

pub returns : goal.returns
returns c = run_goes_on
