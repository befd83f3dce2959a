use Rattle.s390x_alloc_laws.proofs.Leading.{jumps_lead}
use Rattle.s390x_alloc_laws.proofs.law.some_step_leads.Goals as goal

pub returns : goal.returns
returns c = jumps_lead
