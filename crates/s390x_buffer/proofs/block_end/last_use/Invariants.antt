use Rattle.std.proofs.Common.{◌≡◌, drop, false}
use Rattle.s390x_buffer.specs.BlockEnd.{has_use}
use Rattle.s390x_buffer.proofs.block_end.last_use.Given as goal

abbrev pub invariant-loop-i : goal.invariant-loop-i
invariant-loop-i l = has_use l.start l.target.0 (drop l.i l.uses) ≡ false
