use Rattle.std.proofs.Common.{◌≡◌, ◌++◌, drop, take, map, All}
use Rattle.s390x_elf.specs.Names.{name_in}
use Rattle.s390x_elf.specs.Tables.{symbol_of, relocation_entries, RelocFits}
use Rattle.s390x_elf.proofs.relocations.relocation_entries.Given as goal

-- what is left leads to what all lead to
abbrev pub invariant-loop-reloc : goal.invariant-loop-reloc
invariant-loop-reloc l = record {
  entries : l.entries.items ++ relocation_entries (name_in l.names) (map symbol_of l.symbols.symbols.items) (drop l.reloc-index l.relocs) ≡ relocation_entries (name_in l.names) (map symbol_of l.symbols.symbols.items) l.relocs;
  fits : All RelocFits (take l.reloc-index l.relocs);
}
