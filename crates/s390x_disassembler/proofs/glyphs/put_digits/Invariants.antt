use Rattle.std.proofs.Common.{◌≡◌, ◌<◌, ◌≤◌, ◌^◌, false, length, drop}
use Rattle.std.specs.Fmt.{digits, digits_onto}
use Rattle.s390x_disassembler.proofs.glyphs.put_digits.Given as goal

-- the digits that are written, with those of the number that is left before them
abbrev pub invariant-loop-rest : goal.invariant-loop-rest
invariant-loop-rest l = record {
  long : length l.buffer ≡ 64;
  room : (0 < l.start) × (l.start ≤ 64);
  small : l.rest < 2 ^ l.start;
  same : digits_onto l.start l.base false l.rest (drop l.start l.buffer) ≡ digits l.base false l.n;
}

abbrev pub decreases-loop-rest : goal.decreases-loop-rest
decreases-loop-rest l = l.rest
