use Rattle.std.proofs.Common.{◌≡◌, take, map}
use Rattle.s390x_buffer.specs.State.{constant_of}
use Rattle.s390x_buffer.proofs.buffer.copy_constants.Given as goal

abbrev pub invariant-loop-c : goal.invariant-loop-c
invariant-loop-c l = map constant_of l.copies.items ≡ map constant_of (take l.c-index l.constants)
