use Rattle.std.proofs.Common.{◌≡◌, drop}
use Rattle.s390x_elf.specs.Names.{name_in}
use Rattle.s390x_elf.proofs.names.symbol_name.Given as goal

-- what is left leads to what all lead to
abbrev pub invariant-loop-given : goal.invariant-loop-given
invariant-loop-given l = name_in (drop l.given-index l.names) l.symbol ≡ name_in l.names l.symbol
