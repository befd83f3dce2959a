use Rattle.std.proofs.Common.{◌≡◌, ◌++◌, drop, map}
use Rattle.s390x_elf.specs.Members.{member_relocation, offsets_cause}
use Rattle.s390x_elf.proofs.members.put_relocs.Given as goal

-- what is left leads to what all lead to
abbrev pub invariant-loop-reloc : goal.invariant-loop-reloc
invariant-loop-reloc l = record {
  relocs : l.relocs.items ++ map (member_relocation l.start) (drop l.reloc-index l.added) ≡ l.initial.relocs.items ++ map (member_relocation l.start) l.added;
  cause : offsets_cause l.start (drop l.reloc-index l.added) ≡ offsets_cause l.start l.added;
}
