use Rattle.std.proofs.Common.{◌≡◌, ◌++◌, drop}
use Rattle.std.specs.List.{flat_map}
use Rattle.s390x_elf.proofs.metadata.put_rows.Given as goal

-- what is left leads to what all entries lead to
abbrev pub invariant-loop-entry : goal.invariant-loop-entry
invariant-loop-entry g l = l.numbers.items ++ flat_map g.E.Row.flat (drop l.entry-index l.entries) ≡ l.initial.numbers.items ++ flat_map g.E.Row.flat l.entries
