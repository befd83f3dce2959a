use Rattle.std.proofs.Common.{◌≡◌, drop, map}
use Rattle.s390x_elf.specs.Names.{name_in}
use Rattle.s390x_elf.specs.Object.{with_used_names}
use Rattle.s390x_elf.specs.Tables.{symbol_of, Indexes}
use Rattle.s390x_elf.proofs.relocations.add_used_names.Given as goal

-- what is left leads to what all lead to
abbrev pub invariant-loop-reloc : goal.invariant-loop-reloc
invariant-loop-reloc l = record {
  places : Indexes l.symbols.places (map symbol_of l.symbols.symbols.items);
  symbols : with_used_names (name_in l.names) (map symbol_of l.symbols.symbols.items) (drop l.reloc-index l.relocs) ≡ with_used_names (name_in l.names) (map symbol_of l.initial.symbols.symbols.items) l.relocs;
}
