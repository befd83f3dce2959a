use Rattle.std.proofs.Common.{arith}
use Rattle.s390x_machine.specs.Regions.{byte_of}
use Rattle.s390x_machine.proofs.Numbers.{number_halves}
use Rattle.s390x_machine.proofs.Regions.{holds_high, holds_low}
use Rattle.s390x_machine.proofs.flat.FlatMemory.quadword.Goals as goal

pub doubleword-high-requires : goal.doubleword-high-requires
doubleword-high-requires c = holds_low c.args.self.now.regions.items c.args.address c.args.i c.requires

pub doubleword-low-requires : goal.doubleword-low-requires
doubleword-low-requires c = holds_high c.args.self.now.regions.items c.args.address c.args.i c.requires

pub returns : goal.returns
returns c = omega (arith, number_halves (byte_of c.args.self.now) c.args.address, c.doubleword-high.ensures, c.doubleword-low.ensures)
