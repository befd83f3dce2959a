use Rattle.std.proofs.Common.{◌≡◌, drop, map}
use Rattle.s390x_buffer.specs.State.{all_aligned, constant_of}
use Rattle.s390x_buffer.proofs.buffer.all_aligned.Given as goal

abbrev pub invariant-loop-c : goal.invariant-loop-c
invariant-loop-c l = all_aligned (map constant_of (drop l.c-index l.constants)) ≡ all_aligned (map constant_of l.constants)
