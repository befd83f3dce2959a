use Rattle.std.proofs.Common.{◌≡◌, ◌++◌, length, string_bytes}
use Rattle.s390x_disassembler.specs.Noted.{due_text, notes_left}
use Rattle.s390x_disassembler.proofs.noted.put_due.Given as goal

-- what is written, with what is still due; and what is left in the end
abbrev pub invariant-loop-left : goal.invariant-loop-left
invariant-loop-left l = record {
  text : string_bytes l.out ++ due_text l.offset l.left ≡ string_bytes l.initial.out ++ due_text l.offset l.notes;
  left : notes_left l.offset l.left ≡ notes_left l.offset l.notes;
}

abbrev pub decreases-loop-left : goal.decreases-loop-left
decreases-loop-left l = length l.left
