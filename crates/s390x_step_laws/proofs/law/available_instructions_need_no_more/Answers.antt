use Rattle.s390x_step_laws.proofs.Available.{access_is_allowed, single_is_allowed}
use Rattle.s390x_step_laws.proofs.law.available_instructions_need_no_more.Goals as goal

pub returns-clause-singles : goal.returns-clause-singles
returns-clause-singles c = single_is_allowed

pub returns-clause-accesses : goal.returns-clause-accesses
returns-clause-accesses c = access_is_allowed
