use Rattle.std.proofs.Common.{arith}
use Rattle.std.proofs.lemmas.Nat.{or_lt, xor_lt, pow_below}
use Rattle.s390x_lanes.proofs.Powers.{masked_128}
use Rattle.s390x_lanes.proofs.binary.binary.Goals as goal

pub overflow_sub-result-in-NotOr : goal.overflow_sub-result-in-NotOr
overflow_sub-result-in-NotOr c = omega (arith, or_lt c.args.w c.args.x c.args.y c.requires.x_fits c.requires.y_fits)

pub overflow_sub-result-in-NotXor : goal.overflow_sub-result-in-NotXor
overflow_sub-result-in-NotXor c = omega (arith, xor_lt c.args.w c.args.x c.args.y c.requires.x_fits c.requires.y_fits)

pub returns-in-Add-clause-value : goal.returns-in-Add-clause-value
returns-in-Add-clause-value c = rw c.in-Add.is (masked_128 c.args.w _ _ c.requires.high c.ones-all.ensures)

pub returns-in-Mul-clause-value : goal.returns-in-Mul-clause-value
returns-in-Mul-clause-value c = rw c.in-Mul.is (masked_128 c.args.w _ _ c.requires.high c.ones-all.ensures)

pub returns-else-x-y-clause-fits : goal.returns-else-x-y-clause-fits
returns-else-x-y-clause-fits c = pow_below 0 c.args.w c.requires.low

pub returns-in-Or-clause-fits : goal.returns-in-Or-clause-fits
returns-in-Or-clause-fits c = or_lt c.args.w c.args.x c.args.y c.requires.x_fits c.requires.y_fits

pub returns-in-Xor-clause-fits : goal.returns-in-Xor-clause-fits
returns-in-Xor-clause-fits c = xor_lt c.args.w c.args.x c.args.y c.requires.x_fits c.requires.y_fits

pub returns-in-OrNot-clause-fits : goal.returns-in-OrNot-clause-fits
returns-in-OrNot-clause-fits c = or_lt c.args.w c.args.x _ c.requires.x_fits (omega arith)
