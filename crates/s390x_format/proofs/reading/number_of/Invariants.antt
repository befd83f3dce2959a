use Rattle.std.proofs.Common.{◌≡◌, ◌+◌, ◌*◌, ◌^◌, drop, length}
use Rattle.s390x_format.specs.Reading.{be_number}
use Rattle.s390x_format.proofs.reading.number_of.Given as goal

abbrev pub invariant-loop-b : goal.invariant-loop-b
invariant-loop-b l = l.n * 2 ^ (8 * length (drop l.b-index l.bytes)) + be_number (drop l.b-index l.bytes) ≡ be_number l.bytes
