use Rattle.std.proofs.Common.{arith}
use Rattle.s390x_machine.proofs.Regions.{held_nowhere}
use Rattle.s390x_machine.proofs.flat.FlatMemory.holder.Goals as goal

pub returns : goal.returns
returns c = held_nowhere c.args.self.now.regions.items c.args.address (λ k z lt. c.loop-i.invariant k z (omega (arith, c.len-i-end.ensures)))
