use Rattle.std.proofs.Common.{◌≡◌, ◌++◌, drop, string_bytes}
use Rattle.s390x_disassembler.specs.Noted.{notes_text}
use Rattle.s390x_disassembler.proofs.noted.put_notes.Given as goal

-- what is written, with the notes that are left
abbrev pub invariant-loop-note : goal.invariant-loop-note
invariant-loop-note l = string_bytes l.out ++ notes_text (drop l.note-index l.notes) ≡ string_bytes l.initial.out ++ notes_text l.notes
