use Rattle.std.proofs.Common.{ℕ, Some, subst}
use Rattle.s390x_machine.specs.Regions.{HoldsAll}
use Rattle.s390x_machine.proofs.flat.FlatMemory.region_number.Goals as goal

pub doubleword-requires : goal.doubleword-requires
doubleword-requires c = subst (λ (n : ℕ). HoldsAll (Some c.args.i) c.args.self.now.regions.items c.args.address n) c.if-n-eq8.true c.requires.holds

pub quadword-requires : goal.quadword-requires
quadword-requires c = subst (λ (n : ℕ). HoldsAll (Some c.args.i) c.args.self.now.regions.items c.args.address n) c.if-n-eq16.true c.requires.holds
