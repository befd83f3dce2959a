use Rattle.std.proofs.Common.{◌≡◌, ◌++◌, drop, take, map, All}
use Rattle.std.specs.List.{flat_map}
use Rattle.s390x_elf.specs.TableBytes.{TableFits, code_of, table_sections}
use Rattle.s390x_elf.specs.Writing.{section_of}
use Rattle.s390x_elf.proofs.metadata.put_kinds.Given as goal

-- what is left leads to what all kinds lead to
abbrev pub invariant-loop-kind : goal.invariant-loop-kind
invariant-loop-kind l = record {
  sections : map section_of l.sections.items ++ flat_map (table_sections (map code_of l.codes)) (drop l.kind-index l.kinds) ≡ map section_of l.initial.sections.items ++ flat_map (table_sections (map code_of l.codes)) l.kinds;
  fits : All (TableFits (map code_of l.codes)) (take l.kind-index l.kinds);
}
