-- What C sees of an instruction.
use Rattle.std.specs.Prelude.{◌≡◌, ℕ, List}
use Rattle.s390x_format.specs.Fetch.{IsFetch}
use Rattle.s390x_format.specs.Formats.{length_of}
use Rattle.s390x_format.specs.declared.decoder.Decoded.{Decoded}
use Rattle.s390x_format_numbers.specs.Formats.{number_of_format}
use Rattle.s390x_decode_c.specs.declared.instruction.Instruction.{Instruction}

-- each field is the instruction's
pub record Describes (d : Decoded) (i : Instruction) : Type 0 where
  pub opcode : i.opcode ≡ d.row.opcode
  pub format : i.format ≡ number_of_format d.row.format
  pub length : i.length ≡ length_of d.row.format
  pub registers : i.registers ≡ d.fields.regs
  pub masks : i.masks ≡ d.fields.masks
  pub displacement : i.displacement ≡ d.fields.disp
  pub immediate : i.immediate ≡ d.fields.imm

-- the bytes begin with an instruction, the only one, and this is what C sees of it
pub record Begins (bytes : List ℕ) (i : Instruction) : Type 0 where
  pub decoded : Decoded
  pub fetch : IsFetch bytes decoded
  pub one : (d : Decoded) → IsFetch bytes d → d ≡ decoded
  pub describes : Describes decoded i
