use Rattle.s390x_lanes.specs.Lanes.{lane}
use Rattle.s390x_lanes.proofs.Powers.{masked, masked_lt}
use Rattle.s390x_lanes.proofs.lane.lane.Goals as goal

pub returns-clause-value : goal.returns-clause-value
unfolding lane
returns-clause-value c = masked c.args.w _ c.ones.result c.ones.ensures

pub returns-clause-fits : goal.returns-clause-fits
returns-clause-fits c = masked_lt c.args.w _ c.ones.result c.ones.ensures
