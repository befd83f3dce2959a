use Rattle.s390x_alloc_laws.proofs.Leading.{no_handlers, steps_lead, steps_stay}
use Rattle.s390x_alloc_laws.proofs.law.steps_lead_to_successors.Goals as goal

pub returns-clause-inside : goal.returns-clause-inside
returns-clause-inside c = steps_stay

pub returns-clause-ends : goal.returns-clause-ends
returns-clause-ends c = steps_lead

pub returns-clause-calls : goal.returns-clause-calls
returns-clause-calls c = no_handlers
