use Rattle.std.proofs.Common.{◌≡◌, drop}
use Rattle.s390x_image.specs.Symbols.{no_symbols}
use Rattle.s390x_bundle.specs.Table.{with_lines}
use Rattle.s390x_bundle.proofs.table.symbol_table.Given as goal

abbrev pub invariant-loop-line : goal.invariant-loop-line
invariant-loop-line l = with_lines l.table (drop l.line-index l.lines) ≡ with_lines no_symbols l.lines
