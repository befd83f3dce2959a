-- Which bytes are a row's, with which values in the slots.
use Rattle.std.specs.Prelude.{◌≡◌, ℕ, zero, suc, ◌+◌, ◌-◌, ◌*◌, ◌/◌, ◌%◌, ◌^◌, ◌<◌, ◌≤◌, true, List, [], ◌∷◌, length, take, get_or, slice_index, Option, Some, None}
use Rattle.s390x_format.specs.declared.kind.FormatKind.{FormatKind}
use Rattle.s390x_format.specs.declared.kind.FormatKind.TheVariants.{E}
use Rattle.s390x_format.specs.declared.row.MachineRow.{MachineRow}
use Rattle.s390x_format.specs.declared.facility.Facility.TheVariants.{Base}
use Rattle.s390x_format.specs.declared.facility.FacilityRule.TheVariants.{Always}
use Rattle.s390x_format.specs.declared.semantics.RowSemantics.TheVariants.{Havoc}
use Rattle.s390x_format.specs.declared.row.Allowed.TheVariants.{Any}
use Rattle.s390x_format.specs.declared.reading.Reading.{Reading}
use Rattle.s390x_format.specs.declared.reading.PlacedReading.{PlacedReading}
use Rattle.s390x_format.specs.declared.reading.LeadingBytes.{LeadingBytes}
use Rattle.s390x_format.specs.declared.index.RestPlace.{RestPlace}
use Rattle.s390x_format.specs.declared.index.RestPlace.TheVariants.{Nowhere, LowHalf, SecondByte, LastByte}
use Rattle.s390x_format.specs.Layout.{number, SlotsFit}
use Rattle.s390x_format.specs.Formats.{layout_of, length_of}
use Rattle.s390x_format.specs.Rows.{is_allowed, fetch_length_of}

-- the k bytes of a number, the most significant first
unfoldable pub be_bytes : ℕ → ℕ → List ℕ
be_bytes zero n = []
be_bytes (suc k) n = (n / 2 ^ (8 * k) % 256) ∷ be_bytes k n

-- the number of bytes, the most significant first
unfoldable pub be_number : List ℕ → ℕ
be_number [] = 0
be_number (b ∷ bs) = b * 2 ^ (8 * length bs) + be_number bs

-- the bytes of the values in the slots
abbrev pub encode : FormatKind → List ℕ → List ℕ
encode kind slots = be_bytes (length_of kind) (number (layout_of kind) slots)

-- what a read past the table's end gives
abbrev pub no_row : MachineRow
no_row = record { format = E; opcode = 0; allowed = Any; facility = Always Base; semantics = Havoc }

-- the opcode of a number of t bits that goes on there
abbrev pub opcode_at : RestPlace → ℕ → ℕ → ℕ
opcode_at Nowhere t n = n / 2 ^ (t - 8) % 256
opcode_at LowHalf t n = n / 2 ^ (t - 8) % 256 * 16 + n / 2 ^ (t - 16) % 16
opcode_at SecondByte t n = n / 2 ^ (t - 8) % 256 * 256 + n / 2 ^ (t - 16) % 256
opcode_at LastByte t n = n / 2 ^ (t - 8) % 256 * 256 + n % 256

-- the rest of the opcode of a number of t bits, where it stands there
abbrev pub rest_at : RestPlace → ℕ → ℕ → ℕ
rest_at Nowhere t n = 0
rest_at LowHalf t n = n / 2 ^ (t - 16) % 16
rest_at SecondByte t n = n / 2 ^ (t - 16) % 256
rest_at LastByte t n = n % 256

-- as many of the bytes as the first one tells, as a number
pub record IsLeading (bytes : List ℕ) (l : LeadingBytes) : Type 0 where
  pub first : l.first ≡ get_or bytes 0 0
  pub count : l.count ≡ fetch_length_of l.first
  pub enough : l.count ≤ length bytes
  pub number_is : l.number ≡ be_number (take l.count bytes)
  pub below : l.number < 2 ^ (8 * l.count)

-- at this place the table has a row with this opcode
pub record HasOpcode (rows : List MachineRow) (opcode at : ℕ) : Type 0 where
  pub below : at < length rows
  pub same : (get_or rows at no_row).opcode ≡ opcode

-- a number of some bytes is the row's, with these values in the slots
pub record IsReadAs (row : MachineRow) (bytes n : ℕ) (d : Reading) : Type 0 where
  pub format : d.row.format ≡ row.format
  pub opcode : d.row.opcode ≡ row.opcode
  pub bytes_are : length_of row.format ≡ bytes
  pub fit : SlotsFit (layout_of row.format) d.slots
  pub code : slice_index d.slots 0 ≡ row.opcode
  pub number_is : number (layout_of row.format) d.slots ≡ n
  pub allowed : is_allowed row.allowed d.slots ≡ true

-- the bytes begin with those of a row of the table, with these values in the slots
pub record IsReading (rows : List MachineRow) (bytes : List ℕ) (d : Reading) : Type 0 where
  pub at : ℕ
  pub in_table : at < length rows
  pub format : d.row.format ≡ (get_or rows at no_row).format
  pub opcode : d.row.opcode ≡ (get_or rows at no_row).opcode
  pub fit : SlotsFit (layout_of d.row.format) d.slots
  pub code : slice_index d.slots 0 ≡ d.row.opcode
  pub allowed : is_allowed (get_or rows at no_row).allowed d.slots ≡ true
  pub bytes_are : take (length_of d.row.format) bytes ≡ encode d.row.format d.slots

-- what a reading at a place in the table says, without the place
abbrev pub reading_in : Option PlacedReading → Option Reading
reading_in None = None
reading_in (Some p) = Some p.reading

-- the bytes begin with those of the row at a place in the table, with these values in the slots
pub record IsPlacedReading (rows : List MachineRow) (bytes : List ℕ) (p : PlacedReading) : Type 0 where
  pub reading : IsReading rows bytes p.reading
  pub row : HasOpcode rows p.reading.row.opcode p.at
