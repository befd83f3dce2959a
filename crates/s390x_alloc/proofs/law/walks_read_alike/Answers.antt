use Rattle.s390x_alloc.proofs.Walking.{faultless_walks}
use Rattle.s390x_alloc.proofs.law.walks_read_alike.Goals as goal

pub returns : goal.returns
returns c = faultless_walks
