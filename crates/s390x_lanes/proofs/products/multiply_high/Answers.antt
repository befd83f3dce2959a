use Rattle.s390x_lanes.proofs.Powers.{high_lt}
use Rattle.s390x_lanes.proofs.products.multiply_high.Goals as goal

pub returns-clause-fits : goal.returns-clause-fits
returns-clause-fits c = high_lt c.args.w c.multiply.result c.multiply.ensures.fits
