use Rattle.std.proofs.Common.{◌≡◌, ◌++◌, drop, map}
use Rattle.s390x_binary_tool.specs.Notes.{plain_note, reloc_note}
use Rattle.s390x_binary_tool.proofs.entry_notes.put_relocs.Given as goal

-- the notes so far, with the relocations that are left
abbrev pub invariant-loop-reloc : goal.invariant-loop-reloc
invariant-loop-reloc l = map plain_note l.notes.items ++ map (reloc_note l.base) (drop l.reloc-index l.relocs) ≡ map plain_note l.initial.notes.items ++ map (reloc_note l.base) l.relocs
