use Rattle.std.proofs.Common.{◌≡◌, ◌∷◌, ◌++◌, drop, map}
use Rattle.s390x_elf.specs.Object.{string_table}
use Rattle.s390x_elf.specs.Tables.{symbol_of}
use Rattle.s390x_elf.proofs.symbols.string_table.Given as goal

-- what is left leads to what all lead to
abbrev pub invariant-loop-symbol : goal.invariant-loop-symbol
invariant-loop-symbol l = l.names.items ++ string_table (map symbol_of (drop l.symbol-index l.symbols)) ≡ 0 ∷ string_table (map symbol_of l.symbols)
