use Rattle.s390x_machine.proofs.Example.{loop_runs}
use Rattle.s390x_machine.proofs.law.a_loop_runs.Goals as goal

pub returns : goal.returns
returns c = loop_runs
