-- What the page sees of an instruction.
use Rattle.std.specs.Prelude.{◌≡◌, ℕ, List, Some, slice_get}
use Rattle.s390x_format.specs.Fetch.{IsFetch, IsLocated}
use Rattle.s390x_format.specs.Formats.{length_of, layout_of}
use Rattle.s390x_format.specs.declared.decoder.Decoded.{Decoded}
use Rattle.s390x_format.specs.declared.decoder.Located.{Located}
use Rattle.s390x_format.specs.declared.layouts.Part.{Part}
use Rattle.s390x_format_numbers.specs.Formats.{number_of_format}
use Rattle.s390x_page.specs.declared.instruction.Instruction.{Instruction}
use Rattle.s390x_page.specs.declared.parts.FormatPart.{FormatPart}

-- each field is the instruction's
pub record Describes (l : Located) (i : Instruction) : Type 0 where
  pub row : i.row ≡ l.at
  pub opcode : i.opcode ≡ l.decoded.row.opcode
  pub format : i.format ≡ number_of_format l.decoded.row.format
  pub length : i.length ≡ length_of l.decoded.row.format
  pub registers : i.registers ≡ l.decoded.fields.regs
  pub masks : i.masks ≡ l.decoded.fields.masks
  pub displacement : i.displacement ≡ l.decoded.fields.disp
  pub immediate : i.immediate ≡ l.decoded.fields.imm

-- the bytes begin with an instruction, the only one, and this is what the page sees of it
pub record Begins (bytes : List ℕ) (i : Instruction) : Type 0 where
  pub located : Located
  pub is : IsLocated bytes located
  pub one : (d : Decoded) → IsFetch bytes d → d ≡ located.decoded
  pub describes : Describes located i

-- what the page sees is part k of the parts
abbrev pub IsPart : List Part → ℕ → FormatPart → Type 0
IsPart parts k p = slice_get parts k ≡ Some (record { slot = p.slot; low = p.low; width = p.width })

-- the bytes begin with an instruction, and this is part k of its format
pub record HasPart (bytes : List ℕ) (k : ℕ) (p : FormatPart) : Type 0 where
  pub decoded : Decoded
  pub fetch : IsFetch bytes decoded
  pub is : IsPart (layout_of decoded.row.format) k p
