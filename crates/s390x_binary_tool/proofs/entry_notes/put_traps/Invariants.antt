use Rattle.std.proofs.Common.{◌≡◌, ◌++◌, drop, map}
use Rattle.s390x_binary_tool.specs.Notes.{plain_note, trap_note}
use Rattle.s390x_binary_tool.proofs.entry_notes.put_traps.Given as goal

-- the notes so far, with the traps that are left
abbrev pub invariant-loop-trap : goal.invariant-loop-trap
invariant-loop-trap l = map plain_note l.notes.items ++ map (trap_note l.base) (drop l.trap-index l.traps) ≡ map plain_note l.initial.notes.items ++ map (trap_note l.base) l.traps
