use Rattle.std.proofs.Common.{◌≡◌, drop, map}
use Rattle.s390x_buffer.specs.State.{constant_of}
use Rattle.s390x_buffer.specs.Constants.{greatest_align}
use Rattle.s390x_buffer.proofs.finish.alignment_of.Given as goal

abbrev pub invariant-loop-c : goal.invariant-loop-c
invariant-loop-c l = greatest_align l.alignment (map constant_of (drop l.c-index l.constants)) ≡ greatest_align 4 (map constant_of l.constants)
