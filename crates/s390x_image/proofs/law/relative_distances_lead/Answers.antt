use Rattle.s390x_image.specs.ReadingBack.{distance_leads}
use Rattle.s390x_image.proofs.law.relative_distances_lead.Goals as goal

pub returns : goal.returns
returns c = distance_leads
