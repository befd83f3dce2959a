use Rattle.s390x_emit_laws.proofs.Running.{one_runs}
use Rattle.s390x_emit_laws.proofs.law.linked_instructions_run_anywhere.Goals as goal

pub returns : goal.returns
returns c = one_runs
