use Rattle.std.proofs.Common.{sym}
use Rattle.s390x_machine.proofs.Regions.{all_held}
use Rattle.s390x_machine.proofs.flat.FlatMemoryMemory.has_all.Goals as goal

pub returns-in-Some : goal.returns-in-Some
returns-in-Some c = sym (all_held c.args.self.now c.args.address c.args.n c.in-Some.field-0 c.in-Some.ensures)
