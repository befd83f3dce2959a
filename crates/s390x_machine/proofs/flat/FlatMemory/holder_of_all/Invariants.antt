use Rattle.std.proofs.Common.{ℕ, ◌<◌, get_or}
use Rattle.s390x_machine.specs.Regions.{ContainsNone}
use Rattle.s390x_machine.specs.declared.flat.Region.{Region}
use Rattle.s390x_machine.proofs.flat.FlatMemory.holder_of_all.Given as goal

abbrev pub invariant-loop-i : goal.invariant-loop-i
invariant-loop-i l = (k : ℕ) → k < l.i → (z : Region) → ContainsNone (get_or l.self.regions.items k z) l.address l.n
