use Rattle.std.proofs.Common.{arith, ◌-◌}
use Rattle.std.proofs.lemmas.Nat.{pow_pos}
use Rattle.s390x_lanes.proofs.Powers.{pow_le}
use Rattle.s390x_lanes.proofs.places.mask_bits.Goals as goal

pub overflow_sub-result : goal.overflow_sub-result
overflow_sub-result c = omega (arith, pow_le (c.args.w - c.args.end - 1) (c.args.w - c.args.start) (omega arith), pow_pos (c.args.w - c.args.start))

pub overflow_sub-result-else-start-end : goal.overflow_sub-result-else-start-end
overflow_sub-result-else-start-end c = omega (arith, pow_le (c.args.w - c.args.end - 1) c.args.w (omega arith))

pub returns-then-start-end-clause-fits : goal.returns-then-start-end-clause-fits
returns-then-start-end-clause-fits c =
    omega (arith, pow_le (c.args.w - c.args.start) c.args.w (omega arith), pow_pos (c.args.w - c.args.end - 1), pow_pos (c.args.w - c.args.start))

pub returns-else-start-end-clause-fits : goal.returns-else-start-end-clause-fits
returns-else-start-end-clause-fits c =
    omega (arith, pow_le (c.args.w - c.args.start) (c.args.w - c.args.end - 1) (omega arith), pow_pos (c.args.w - c.args.start), pow_le (c.args.w - c.args.end - 1) c.args.w (omega arith))
