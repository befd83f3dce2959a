use Rattle.std.proofs.Common.{◌≡◌, ◌++◌, drop, take, All}
use Rattle.s390x_elf.specs.TableBytes.{IsWide, wides}
use Rattle.s390x_elf.proofs.metadata.put_wides.Given as goal

-- what is left leads to what all numbers lead to
abbrev pub invariant-loop-number : goal.invariant-loop-number
invariant-loop-number l = record {
  bytes : l.bytes.items ++ wides (drop l.number-index l.numbers) ≡ l.initial.bytes.items ++ wides l.numbers;
  fits : All IsWide (take l.number-index l.numbers);
}
