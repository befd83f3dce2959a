use Rattle.std.proofs.Common.{arith, ◌-◌}
use Rattle.std.proofs.lemmas.Nat.{pow_pos}
use Rattle.s390x_lanes.proofs.Powers.{pow_step}
use Rattle.s390x_lanes.proofs.unary.saturate_signed.Goals as goal

pub returns-else-x-limit-clause-fits : goal.returns-else-x-limit-clause-fits
returns-else-x-limit-clause-fits c = omega (arith, pow_step c.args.w c.requires.low, pow_pos (c.args.w - 1))

pub returns-else-below-limit-clause-fits : goal.returns-else-below-limit-clause-fits
returns-else-below-limit-clause-fits c = omega (arith, pow_step c.args.w c.requires.low, pow_pos (c.args.w - 1))
