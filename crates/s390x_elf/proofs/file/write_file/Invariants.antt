use Rattle.std.proofs.Common.{◌+◌, ◌*◌, ◌≤◌, length, drop, map}
use Rattle.s390x_elf.specs.Writing.{names_section, section_of}
use Rattle.s390x_elf.proofs.Steps.{Leads}
use Rattle.s390x_elf.proofs.file.write_file.Given as goal

-- what is left leads to what all sections lead to
abbrev pub invariant-loop-section : goal.invariant-loop-section
invariant-loop-section l = record {
  leads : Leads l.start l.parts.headers.items l.parts.names.items l.parts.contents.items (map section_of (drop l.section-index l.sections)) (names_section (map section_of l.sections)) (map section_of l.sections);
  short : length l.parts.names.items ≤ 1 + 256 * l.section-index;
}
