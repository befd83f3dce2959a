use Rattle.std.proofs.Common.{arith}
use Rattle.s390x_lanes.proofs.Powers.{fits_128, pow_step, pow_le}
use Rattle.s390x_lanes.proofs.number.bias.Goals as goal

pub overflow_add-result : goal.overflow_add-result
overflow_add-result c = fits_128 (omega (arith, pow_step c.args.w c.requires.low, pow_le c.args.w 128 c.requires.high))
