use Rattle.std.proofs.Common.{arith}
use Rattle.s390x_lanes.proofs.Powers.{pow_le}
use Rattle.s390x_lanes.proofs.number.sign_extend.Goals as goal

pub overflow_sub-result : goal.overflow_sub-result
overflow_sub-result c = omega (arith, pow_le c.args.w c.args.v c.requires.order)

pub returns-then-x-sign_bit-clause-fits : goal.returns-then-x-sign_bit-clause-fits
returns-then-x-sign_bit-clause-fits c = omega (arith, pow_le c.args.w c.args.v c.requires.order)

pub returns-else-x-sign_bit-clause-fits : goal.returns-else-x-sign_bit-clause-fits
returns-else-x-sign_bit-clause-fits c = omega (arith, pow_le c.args.w c.args.v c.requires.order)
