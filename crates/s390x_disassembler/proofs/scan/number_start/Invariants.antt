use Rattle.std.proofs.Common.{◌≡◌, drop}
use Rattle.s390x_disassembler.specs.Numbers.{number_on}
use Rattle.s390x_disassembler.proofs.scan.number_start.Given as goal

-- no number begins so far
abbrev pub invariant-loop-i : goal.invariant-loop-i
invariant-loop-i l = number_on (drop l.i l.text) ≡ number_on l.text
