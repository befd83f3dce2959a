use Rattle.std.proofs.Common.{◌≡◌, ◌%◌, sum, take}
use Rattle.s390x_generator.proofs.checksum.byte_sum.Given as goal

-- the sum of the bytes so far
abbrev pub invariant-loop-byte : goal.invariant-loop-byte
invariant-loop-byte l = l.total ≡ sum (take l.byte-index l.bytes) % 4294967296
