use Rattle.std.proofs.Common.{◌≡◌, drop}
use Rattle.s390x_disassembler.specs.Numbers.{digits_read, digits_left}
use Rattle.s390x_disassembler.proofs.scan.digits.Given as goal

-- what the text is read as, with the digits that are left
abbrev pub invariant-loop-i : goal.invariant-loop-i
invariant-loop-i l = record {
  value : digits_read l.radix l.value (drop l.i l.text) ≡ digits_read l.radix 0 l.text;
  rest : digits_left l.radix (drop l.i l.text) ≡ digits_left l.radix l.text;
}
