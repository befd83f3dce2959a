use Rattle.s390x_machine.proofs.Instructions.{step_runs_placed}
use Rattle.s390x_machine.proofs.law.each_step_tells.Goals as goal

pub returns : goal.returns
returns c = step_runs_placed
