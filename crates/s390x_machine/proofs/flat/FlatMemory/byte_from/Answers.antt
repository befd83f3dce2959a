use Rattle.std.proofs.Common.{ℕ, Option, subst}
use Rattle.s390x_machine.specs.Regions.{Holds}
use Rattle.s390x_machine.proofs.flat.FlatMemory.byte_from.Goals as goal

pub region_byte-requires : goal.region_byte-requires
region_byte-requires c = subst (λ (region : Option ℕ). Holds region c.args.self.now.regions.items c.args.address) c.in-Some.is c.requires
