use Rattle.s390x_emit_laws.proofs.Places.{branches_lead}
use Rattle.s390x_emit_laws.proofs.law.placed_branches_lead.Goals as goal

pub returns : goal.returns
returns c = branches_lead
