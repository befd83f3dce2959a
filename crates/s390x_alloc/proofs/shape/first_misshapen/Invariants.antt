use Rattle.std.proofs.Common.{◌≡◌, drop}
use Rattle.s390x_alloc.specs.Shape.{first_misshapen}
use Rattle.s390x_alloc.proofs.shape.first_misshapen.Given as goal

abbrev pub invariant-loop-number : goal.invariant-loop-number
invariant-loop-number l = first_misshapen l.count l.number (drop l.number l.insts) ≡ first_misshapen l.count 0 l.insts
