use Rattle.s390x_alloc_laws.proofs.Laws.{assignments_suffice, emissions_suffice}
use Rattle.s390x_alloc_laws.proofs.assign.registers_are_not_blamed.Goals as goal

pub returns-clause-step : goal.returns-clause-step
returns-clause-step c = assignments_suffice

pub returns-clause-emission : goal.returns-clause-emission
returns-clause-emission c = emissions_suffice
