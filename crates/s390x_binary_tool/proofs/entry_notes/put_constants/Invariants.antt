use Rattle.std.proofs.Common.{◌≡◌, ◌++◌, drop, map}
use Rattle.s390x_binary_tool.specs.Notes.{constant_notes, plain_note}
use Rattle.s390x_binary_tool.proofs.entry_notes.put_constants.Given as goal

-- the notes so far, with the constants that are left
abbrev pub invariant-loop-number : goal.invariant-loop-number
invariant-loop-number l = map plain_note l.notes.items ++ constant_notes l.base l.number (drop l.number l.starts) ≡ map plain_note l.initial.notes.items ++ constant_notes l.base 0 l.starts
