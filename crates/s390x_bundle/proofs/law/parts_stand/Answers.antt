use Rattle.s390x_bundle.proofs.Standing.{part_stands}
use Rattle.s390x_bundle.proofs.law.parts_stand.Goals as goal

pub returns : goal.returns
returns c = part_stands
