use Rattle.std.proofs.Common.{◌≡◌, drop, map}
use Rattle.std.specs.List.{list_any}
use Rattle.s390x_elf.specs.Metadata.{has_entries}
use Rattle.s390x_elf.specs.TableBytes.{code_of}
use Rattle.s390x_elf.proofs.metadata.have_entries.Given as goal

-- what is left leads to what all code leads to
abbrev pub invariant-loop-coded : goal.invariant-loop-coded
invariant-loop-coded l = list_any has_entries (map code_of (drop l.coded-index l.codes)) ≡ list_any has_entries (map code_of l.codes)
