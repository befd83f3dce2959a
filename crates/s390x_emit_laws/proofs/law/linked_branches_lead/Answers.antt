use Rattle.s390x_emit_laws.proofs.Functions.{block_starts_there, linked_branches}
use Rattle.s390x_emit_laws.proofs.law.linked_branches_lead.Goals as goal

pub returns-clause-branches : goal.returns-clause-branches
returns-clause-branches c = linked_branches

pub returns-clause-starts : goal.returns-clause-starts
returns-clause-starts c = block_starts_there
