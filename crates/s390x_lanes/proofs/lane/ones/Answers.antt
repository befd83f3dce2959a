use Rattle.s390x_lanes.proofs.Powers.{ones_low}
use Rattle.s390x_lanes.proofs.lane.ones.Goals as goal

pub returns : goal.returns
returns c = ones_low c.args.w c.requires.high
