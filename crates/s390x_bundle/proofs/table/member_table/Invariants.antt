use Rattle.std.proofs.Common.{◌≡◌, drop}
use Rattle.s390x_image.specs.Symbols.{no_symbols}
use Rattle.s390x_bundle.specs.Table.{with_lines}
use Rattle.s390x_bundle.proofs.Tables.{with_named}
use Rattle.s390x_bundle.proofs.table.member_table.Given as goal

abbrev pub invariant-loop-reloc : goal.invariant-loop-reloc
invariant-loop-reloc l = with_named l.joint (drop l.reloc-index l.relocs) l.table ≡ with_named l.joint l.relocs (with_lines no_symbols l.lines)
