use Rattle.std.proofs.Common.{◌≡◌, ℕ, ◌<◌, get_or, false}
use Rattle.s390x_machine.specs.Regions.{contains}
use Rattle.s390x_machine.specs.declared.flat.Region.{Region}
use Rattle.s390x_machine.proofs.flat.FlatMemory.holder.Given as goal

abbrev pub invariant-loop-i : goal.invariant-loop-i
invariant-loop-i l = (k : ℕ) (z : Region) → k < l.i → contains (get_or l.self.regions.items k z) l.address ≡ false
