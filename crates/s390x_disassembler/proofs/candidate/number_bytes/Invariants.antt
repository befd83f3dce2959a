use Rattle.std.proofs.Common.{◌≡◌, ◌++◌, ◌-◌, length}
use Rattle.s390x_format.specs.Reading.{be_bytes}
use Rattle.s390x_disassembler.proofs.candidate.number_bytes.Given as goal

-- the bytes so far, with those that are left
abbrev pub invariant-loop-i : goal.invariant-loop-i
invariant-loop-i l = record {
  many : length l.bytes.items ≡ l.i;
  so : l.bytes.items ++ be_bytes (l.count - l.i) l.number ≡ be_bytes l.count l.number;
}
