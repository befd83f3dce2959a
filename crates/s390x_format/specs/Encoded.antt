-- The bytes of a row with values that it allows.
use Rattle.std.specs.Prelude.{◌≡◌, ℕ, ◌<◌, true, List, [], ◌∷◌, length, get_or, slice_index}
use Rattle.s390x_format.specs.declared.row.MachineRow.{MachineRow}
use Rattle.s390x_format.specs.declared.kind.FormatKind.{FormatKind}
use Rattle.s390x_format.specs.declared.decoder.Decoded.{Decoded}
use Rattle.s390x_format.specs.Layout.{SlotsFit}
use Rattle.s390x_format.specs.Formats.{layout_of}
use Rattle.s390x_format.specs.Rows.{is_allowed}
use Rattle.s390x_format.specs.Reading.{no_row, encode}
use Rattle.s390x_format.specs.View.{fields_of}

-- the ten slots of an opcode, up to four registers, up to three masks and immediates of 8 bits, a
-- wider immediate, and a displacement; what is not given is 0
abbrev pub slots : ℕ → List ℕ → List ℕ → ℕ → ℕ → List ℕ
slots opcode regs masks imm disp =
    opcode ∷ slice_index regs 0 ∷ slice_index regs 1 ∷ slice_index regs 2 ∷ slice_index regs 3
    ∷ slice_index masks 0 ∷ slice_index masks 1 ∷ slice_index masks 2 ∷ imm ∷ disp ∷ []

-- these are the bytes of the values, each of which fits its place in the format
pub record IsCode (kind : FormatKind) (slots bytes : List ℕ) : Type 0 where
  pub fit : SlotsFit (layout_of kind) slots
  pub bytes_are : bytes ≡ encode kind slots

-- the table has a row of the format with the opcode in the slots, which allows their values
pub record IsEncoded (rows : List MachineRow) (kind : FormatKind) (slots : List ℕ) : Type 0 where
  pub at : ℕ
  pub in_table : at < length rows
  pub format : (get_or rows at no_row).format ≡ kind
  pub opcode : (get_or rows at no_row).opcode ≡ slice_index slots 0
  pub allowed : is_allowed (get_or rows at no_row).allowed slots ≡ true

-- the row and the fields
abbrev pub decoded_of : FormatKind → List ℕ → Decoded
decoded_of kind slots = record { row = record { format = kind; opcode = slice_index slots 0 }; fields = fields_of kind slots }
