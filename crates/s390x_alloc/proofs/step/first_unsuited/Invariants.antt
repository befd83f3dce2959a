use Rattle.std.proofs.Common.{◌≡◌, drop}
use Rattle.s390x_alloc.specs.Steps.{first_unsuited}
use Rattle.s390x_alloc.proofs.step.first_unsuited.Given as goal

abbrev pub invariant-loop-number : goal.invariant-loop-number
invariant-loop-number l = first_unsuited l.all l.number (drop l.number l.operands) ≡ first_unsuited l.all 0 l.operands
