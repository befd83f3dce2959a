use Rattle.s390x_machine.proofs.Reaching.{reaches_missing}
use Rattle.s390x_page.specs.Stepping.{is_held}
use Rattle.s390x_page.proofs.storage.StorageMemory.leading_bytes.Goals as goal

pub returns-in-None : goal.returns-in-None
returns-in-None c = reaches_missing (is_held c.args.self.now) c.args.address c.args.n c.loop-i.i c.loop-i-test.true c.in-None.ensures
