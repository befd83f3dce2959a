use Rattle.s390x_bundle.proofs.Standing.{zero_between}
use Rattle.s390x_bundle.proofs.law.zeros_stand_between.Goals as goal

pub returns : goal.returns
returns c = zero_between
