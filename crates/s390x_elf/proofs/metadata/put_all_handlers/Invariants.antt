use Rattle.std.proofs.Common.{◌≡◌, ◌++◌, drop}
use Rattle.std.specs.List.{flat_map}
use Rattle.s390x_elf.specs.Metadata.{handlers_of}
use Rattle.s390x_elf.proofs.metadata.put_all_handlers.Given as goal

-- what is left leads to what all calls lead to
abbrev pub invariant-loop-entry : goal.invariant-loop-entry
invariant-loop-entry l = l.numbers.items ++ flat_map handlers_of (drop l.entry-index l.tries) ≡ l.initial.numbers.items ++ flat_map handlers_of l.tries
