-- The table of relocations: the fields that linking fills, by their offsets in the code.
use Rattle.std.specs.Prelude.{ℕ, ◌+◌, pos, ◌+ℤ◌, List, [], ◌∷◌, ◌++◌}
use Rattle.s390x_base.specs.declared.ir.Reloc.TheVariants.{S390xPCRel32Dbl, S390xPLTRel32Dbl, Abs8}
use Rattle.s390x_buffer.specs.declared.entries.RelocEntry.{RelocEntry}
use Rattle.s390x_typed_steps.specs.Tree.{Tree}
use Rattle.s390x_typed_steps.specs.Steps.{Step, function_steps}
use Rattle.s390x_typed_steps.specs.Parts.{CodePart, RelativeSymbol, SymbolValue, CallSymbol, part_size, step_parts}
use Rattle.s390x_typed_steps.specs.Image.{step_offset}

-- the relocation that a part at an offset has, if it does
abbrev pub part_relocs : ℕ → CodePart → List RelocEntry
part_relocs p (RelativeSymbol opcode register name offset) = record { offset = p + 2; kind = S390xPCRel32Dbl; name = name; addend = offset +ℤ pos 2 } ∷ []
part_relocs p (SymbolValue name offset) = record { offset = p; kind = Abs8; name = name; addend = offset } ∷ []
part_relocs p (CallSymbol link name) = record { offset = p + 2; kind = S390xPLTRel32Dbl; name = name; addend = pos 2 } ∷ []
part_relocs p _ = []

-- those of parts from an offset on
abbrev pub parts_relocs : ℕ → List CodePart → List RelocEntry
parts_relocs p [] = []
parts_relocs p (part ∷ parts) = part_relocs p part ++ parts_relocs (p + part_size part) parts

-- those of a step at an offset
abbrev pub step_relocs : ℕ → Step → List RelocEntry
step_relocs p s = parts_relocs p (step_parts s)

-- those of the steps from number k on, in the order of the steps
abbrev pub relocs_from : (ℕ → ℕ) → ℕ → List Step → List RelocEntry
relocs_from at k [] = []
relocs_from at k (s ∷ ss) = step_relocs (at k) s ++ relocs_from at (k + 1) ss

-- the table of a function: its steps' relocations, and no others
abbrev pub function_relocs : List Tree → List RelocEntry
function_relocs ts = relocs_from (step_offset (function_steps ts)) 0 (function_steps ts)
