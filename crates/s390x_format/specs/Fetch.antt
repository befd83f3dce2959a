-- The instruction with which some bytes begin.
use Rattle.std.specs.Prelude.{◌≡◌, ℕ, List, Option, Some, None}
use Rattle.s390x_format.specs.declared.row.MachineRow.{MachineRow}
use Rattle.s390x_format.specs.declared.table.TheConstants.{MACHINE_ROWS}
use Rattle.s390x_format.specs.declared.decoder.Decoded.{Decoded}
use Rattle.s390x_format.specs.declared.decoder.Located.{Located}
use Rattle.s390x_format.specs.Reading.{HasOpcode, IsReading}
use Rattle.s390x_format.specs.View.{fields_of}

-- the table of machine rows
unfoldable pub machine_rows : List MachineRow
machine_rows = MACHINE_ROWS

-- the bytes begin with those of a machine row whose opcode, zero bits and allowed masks agree with
-- them; its fields are the values that they have in the slots
pub record IsFetch (bytes : List ℕ) (d : Decoded) : Type 0 where
  pub slots : List ℕ
  pub reading : IsReading machine_rows bytes (record { row = d.row; slots = slots })
  pub fields : d.fields ≡ fields_of d.row.format slots

-- a fetched instruction whose place is that of its row in the table
pub record IsLocated (bytes : List ℕ) (l : Located) : Type 0 where
  pub fetch : IsFetch bytes l.decoded
  pub row : HasOpcode machine_rows l.decoded.row.opcode l.at

-- the instruction without the place of its row
abbrev pub decoded_in : Option Located → Option Decoded
decoded_in None = None
decoded_in (Some l) = Some l.decoded
