use Rattle.std.proofs.Common.{arith, ◌*◌}
use Rattle.s390x_machine.proofs.Multiples.{reaches_part}
use Rattle.s390x_machine.proofs.perform.put_multiple.Goals as goal

pub load-x-requires-clause-there : goal.load-x-requires-clause-there
load-x-requires-clause-there g c = reaches_part (g.M.Memory.held c.args.memory.now) c.args.address (8 * c.args.count) (8 * c.loop-i.i) 8 c.requires.there (omega arith)
