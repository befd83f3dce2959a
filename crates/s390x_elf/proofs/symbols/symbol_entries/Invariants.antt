use Rattle.std.proofs.Common.{◌≡◌, ◌+◌, ◌++◌, length, drop, map}
use Rattle.s390x_elf.specs.Symbols.{null_symbol}
use Rattle.s390x_elf.specs.Object.{string_table}
use Rattle.s390x_elf.specs.Tables.{symbol_of, symbol_entry, symbol_entries}
use Rattle.s390x_elf.proofs.symbols.symbol_entries.Given as goal

-- what is left leads to what all lead to
abbrev pub invariant-loop-symbol : goal.invariant-loop-symbol
invariant-loop-symbol l = record {
  entries : l.entries.items ++ symbol_entries l.name_at (map symbol_of (drop l.symbol-index l.symbols)) ≡ symbol_entry 0 null_symbol ++ symbol_entries 1 (map symbol_of l.symbols);
  name : l.name_at + length (string_table (map symbol_of (drop l.symbol-index l.symbols))) ≡ 1 + length (string_table (map symbol_of l.symbols));
}
