use Rattle.std.proofs.Common.{◌≡◌, ◌++◌, drop, string_bytes}
use Rattle.s390x_binary_tool.specs.Refusal.{more_numbers}
use Rattle.s390x_binary_tool.proofs.refusal.put_more_numbers.Given as goal

-- what is written, with the numbers that are left
abbrev pub invariant-loop-number : goal.invariant-loop-number
invariant-loop-number l = string_bytes l.out ++ more_numbers (drop l.number-index l.numbers) ≡ string_bytes l.initial.out ++ more_numbers l.numbers
