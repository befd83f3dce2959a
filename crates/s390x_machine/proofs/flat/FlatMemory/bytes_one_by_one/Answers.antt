use Rattle.s390x_machine.proofs.Reaching.{reaches_missing}
use Rattle.s390x_machine.specs.Regions.{is_held}
use Rattle.s390x_machine.proofs.flat.FlatMemory.bytes_one_by_one.Goals as goal

pub returns-in-None : goal.returns-in-None
returns-in-None c = reaches_missing (is_held c.args.self.now) c.args.address c.args.n c.loop-i.i c.loop-i-test.true c.in-None.ensures
