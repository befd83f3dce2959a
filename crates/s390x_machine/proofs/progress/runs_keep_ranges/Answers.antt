use Rattle.s390x_machine.proofs.Keeping.{run_keeps}
use Rattle.s390x_machine.proofs.progress.runs_keep_ranges.Goals as goal

pub returns : goal.returns
returns c = run_keeps
