use Rattle.std.proofs.Common.{◌≡◌, ◌++◌, drop, string_bytes}
use Rattle.s390x_disassembler.specs.Disassembly.{lines_text}
use Rattle.s390x_disassembler.proofs.listing.put_lines.Given as goal

-- what is written, with the lines that are left
abbrev pub invariant-loop-line : goal.invariant-loop-line
invariant-loop-line l =
    string_bytes l.out ++ lines_text l.base l.code (drop l.line-index l.lines) ≡ string_bytes l.initial.out ++ lines_text l.base l.code l.lines
