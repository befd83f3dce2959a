use Rattle.std.proofs.Common.{◌≡◌, ◌++◌, drop, string_bytes}
use Rattle.s390x_disassembler.specs.Noted.{noted_text}
use Rattle.s390x_disassembler.proofs.noted.put_lines.Given as goal

-- what is written, with the lines and the notes that are left
abbrev pub invariant-loop-line : goal.invariant-loop-line
invariant-loop-line l =
    string_bytes l.out ++ noted_text l.base l.code l.left (drop l.line-index l.lines) ≡ string_bytes l.initial.out ++ noted_text l.base l.code l.notes l.lines
