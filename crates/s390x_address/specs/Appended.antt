-- What the emission of an instruction with a memory operand does to a buffer.
use Rattle.std.specs.Prelude.{◌+◌, pos, ◌+ℤ◌, List, [], ◌∷◌, ◌++◌, length}
use Rattle.s390x_base.specs.declared.ir.Reloc.TheVariants.{S390xPCRel32Dbl}
use Rattle.s390x_buffer.specs.State.{BufferState, constant_label}
use Rattle.s390x_buffer.specs.declared.label_use.LabelUse.TheVariants.{BranchRIL}
use Rattle.s390x_typed_steps.specs.MachineInstruction.{bytes_of, ril_b}
use Rattle.s390x_typed_steps.specs.Parts.{CodePart, Row, Trapping, Relative, RelativeConstant, RelativeSymbol, TrapHere, ToBlock}

-- The buffer with a part behind its bytes: a machine instruction, with the trap that is recorded at one of its bytes, the use of a label that is
-- patched from its first byte on, or the relocation of its field, two bytes on; or the trap alone. Another part changes nothing here
abbrev pub with_part : BufferState → CodePart → BufferState
with_part s (Row m) = record s { bytes = s.bytes ++ bytes_of m }
with_part s (Trapping m byte code) = record s { bytes = s.bytes ++ bytes_of m; traps = s.traps ++ record { offset = length s.bytes + byte; code = code } ∷ [] }
with_part s (Relative opcode register (ToBlock b)) =
    record s { bytes = s.bytes ++ bytes_of (ril_b opcode register 0); uses = s.uses ++ record { kind = BranchRIL; offset = length s.bytes; label = record { 0 = b } } ∷ [] }
with_part s (RelativeConstant opcode register c) =
    record s { bytes = s.bytes ++ bytes_of (ril_b opcode register 0); uses = s.uses ++ record { kind = BranchRIL; offset = length s.bytes; label = record { 0 = constant_label s c } } ∷ [] }
with_part s (RelativeSymbol opcode register name offset) =
    record s { bytes = s.bytes ++ bytes_of (ril_b opcode register 0); relocs = s.relocs ++ record { offset = length s.bytes + 2; kind = S390xPCRel32Dbl; name = name; addend = offset +ℤ pos 2 } ∷ [] }
with_part s (TrapHere code) = record s { traps = s.traps ++ record { offset = length s.bytes; code = code } ∷ [] }
with_part s _ = s

-- a buffer behind parts, in order
abbrev pub with_parts : BufferState → List CodePart → BufferState
with_parts s [] = s
with_parts s (part ∷ parts) = with_parts (with_part s part) parts
