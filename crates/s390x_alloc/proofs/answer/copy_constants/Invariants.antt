use Rattle.std.proofs.Common.{◌≡◌, ◌++◌, drop, map}
use Rattle.s390x_alloc.specs.Answered.{constant_value}
use Rattle.s390x_alloc.proofs.answer.copy_constants.Given as goal

abbrev pub invariant-loop-constant : goal.invariant-loop-constant
invariant-loop-constant l = map constant_value l.copies.items ++ map constant_value (drop l.constant-index l.constants) ≡ map constant_value l.constants
