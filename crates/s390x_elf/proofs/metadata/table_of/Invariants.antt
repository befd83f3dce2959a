use Rattle.std.proofs.Common.{◌≡◌, ◌+◌, ◌++◌, length, drop, take, map, All}
use Rattle.s390x_elf.specs.Metadata.{parts}
use Rattle.s390x_elf.specs.TableBytes.{IsWide, code_of, part_entries, wides}
use Rattle.s390x_elf.proofs.metadata.table_of.Given as goal

-- what is left leads to what all functions lead to
abbrev pub invariant-loop-coded : goal.invariant-loop-coded
invariant-loop-coded l = record {
  number : l.function ≡ l.coded-index;
  content : l.table.content.items ++ wides (parts l.kind (map code_of (drop l.coded-index l.codes))) ≡ wides (parts l.kind (map code_of l.codes));
  relocations : l.table.relocations.items ++ part_entries l.kind (length l.table.content.items) (l.function + 1) (map code_of (drop l.coded-index l.codes)) ≡ part_entries l.kind 0 1 (map code_of l.codes);
  fits : All IsWide (parts l.kind (map code_of (take l.coded-index l.codes)));
}
