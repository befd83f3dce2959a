use Rattle.s390x_step_laws.proofs.Relative.{function_accesses, instruction_accesses}
use Rattle.s390x_step_laws.proofs.law.no_relative_access_without_rows.Goals as goal

pub returns-clause-functions : goal.returns-clause-functions
returns-clause-functions c = function_accesses

pub returns-clause-instructions : goal.returns-clause-instructions
returns-clause-instructions c = instruction_accesses
