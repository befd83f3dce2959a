use Rattle.s390x_machine.proofs.Instructions.{step_holds_there, step_runs_there}
use Rattle.s390x_machine.proofs.Standing.{step_at}
use Rattle.s390x_machine.proofs.law.each_step_anywhere.Goals as goal

pub returns-clause-holds : goal.returns-clause-holds
returns-clause-holds c = step_holds_there

pub returns-clause-tells : goal.returns-clause-tells
returns-clause-tells c = step_runs_there

pub returns-clause-placed : goal.returns-clause-placed
returns-clause-placed c = step_at
