use Rattle.std.proofs.Common.{◌≡◌, ◌+◌, drop, map}
use Rattle.s390x_disassembler.specs.Text.{plain_row}
use Rattle.s390x_disassembler.specs.Names.{row_named}
use Rattle.s390x_disassembler.proofs.candidate.find.Given as goal

-- the mnemonic is no row's so far
abbrev pub invariant-loop-at : goal.invariant-loop-at
invariant-loop-at l = l.at + row_named (map (λ row. plain_row row) (drop l.at l.spellings)) l.mnemonic ≡ row_named (map (λ row. plain_row row) l.spellings) l.mnemonic
