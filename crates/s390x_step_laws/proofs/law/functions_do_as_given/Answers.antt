use Rattle.s390x_step_laws.proofs.Given.{function_as_given, first_as_given, instruction_as_given}
use Rattle.s390x_step_laws.proofs.law.functions_do_as_given.Goals as goal

pub returns-clause-steps : goal.returns-clause-steps
returns-clause-steps c = function_as_given

pub returns-clause-numbers : goal.returns-clause-numbers
returns-clause-numbers c = first_as_given

pub returns-clause-instructions : goal.returns-clause-instructions
returns-clause-instructions c = instruction_as_given
