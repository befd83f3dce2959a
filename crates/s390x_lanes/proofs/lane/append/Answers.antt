use Rattle.s390x_lanes.proofs.Powers.{shl_push}
use Rattle.s390x_lanes.proofs.lane.append.Goals as goal

pub returns : goal.returns
returns c = shl_push c.args.w c.args.x c.args.v c.requires.low c.requires.fits
