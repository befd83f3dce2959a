use Rattle.std.proofs.Common.{ℕ, Option, subst}
use Rattle.s390x_machine.specs.Regions.{Holds}
use Rattle.s390x_machine.proofs.flat.FlatMemory.put_from.Goals as goal

pub put_in-requires : goal.put_in-requires
put_in-requires c = subst (λ (region : Option ℕ). Holds region c.args.self.now.regions.items c.args.address) c.in-Some.is c.requires.holds

pub returns-in-Some-clause-stays : goal.returns-in-Some-clause-stays
returns-in-Some-clause-stays c = c.put_in.ensures.stays

pub returns-in-None-clause-stays : goal.returns-in-None-clause-stays
returns-in-None-clause-stays c = c.put_byte.ensures.stays
