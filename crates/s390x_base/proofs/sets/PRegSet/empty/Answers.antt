use Rattle.s390x_base.proofs.Members.{has_none, nothing}
use Rattle.s390x_base.proofs.sets.PRegSet.empty.Goals as goal

pub returns : goal.returns
returns c = has_none nothing tt tt
