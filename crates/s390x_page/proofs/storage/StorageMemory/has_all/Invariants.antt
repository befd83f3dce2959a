use Rattle.std.proofs.Common.{◌≡◌}
use Rattle.s390x_operations.specs.State.{reaches}
use Rattle.s390x_page.specs.Stepping.{is_held}
use Rattle.s390x_page.proofs.storage.StorageMemory.has_all.Given as goal

abbrev pub invariant-loop-i : goal.invariant-loop-i
invariant-loop-i l = l.all ≡ reaches (is_held l.self) l.address l.i
