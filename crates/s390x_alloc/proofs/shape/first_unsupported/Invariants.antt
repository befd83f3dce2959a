use Rattle.std.proofs.Common.{◌≡◌, drop}
use Rattle.s390x_alloc.specs.Shape.{first_unsupported}
use Rattle.s390x_alloc.proofs.shape.first_unsupported.Given as goal

abbrev pub invariant-loop-number : goal.invariant-loop-number
invariant-loop-number l = first_unsupported l.number (drop l.number l.insts) ≡ first_unsupported 0 l.insts
