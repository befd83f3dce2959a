-- The table's index by first bytes.
use Rattle.std.specs.Prelude.{◌≡◌, ℕ, ◌+◌, ◌-◌, ◌%◌, ◌<◌, ◌==◌, Bool, true, false, ◌&&◌, nat_le, nat_lt, List, [], ◌∷◌, length, get_or}
use Rattle.s390x_format.specs.declared.row.MachineRow.{MachineRow}
use Rattle.s390x_format.specs.declared.index.FirstByte.{FirstByte}
use Rattle.s390x_format.specs.declared.index.RestPlace.{RestPlace}
use Rattle.s390x_format.specs.declared.index.RestPlace.TheVariants.{Nowhere, LowHalf, SecondByte, LastByte}
use Rattle.s390x_format.specs.Formats.{place_of}
use Rattle.s390x_format.specs.Rows.{first_byte_of, rows_with}
use Rattle.s390x_format.specs.Reading.{no_row}

-- what a read past the index's end gives
abbrev pub no_first_byte : FirstByte
no_first_byte = record { rest = Nowhere; start = 0; end = 0; offsets = 0 }

-- the two are the same place
abbrev pub places_agree : RestPlace → RestPlace → Bool
places_agree Nowhere Nowhere = true
places_agree LowHalf LowHalf = true
places_agree SecondByte SecondByte = true
places_agree LastByte LastByte = true
places_agree _ _ = false

-- each row, from the i-th on, lies in the part of its first byte, which tells where its opcode goes on
unfoldable pub are_indexed : ℕ → List MachineRow → List FirstByte → Bool
are_indexed i [] ps = true
are_indexed i (r ∷ rs) ps =
    let p = get_or ps (first_byte_of r) no_first_byte in places_agree p.rest (place_of r.format) && nat_le p.start i && nat_lt i p.end && are_indexed (i + 1) rs ps

-- the parts of first bytes b and up end within the rows, and have no more rows than there are with that byte
unfoldable pub are_tight : ℕ → List FirstByte → List MachineRow → Bool
are_tight b [] rs = true
are_tight b (p ∷ ps) rs = nat_le p.end (length rs) && nat_le p.start p.end && nat_le (p.end - p.start) (rows_with b rs) && are_tight (b + 1) ps rs

-- the parts are an index of the rows
abbrev pub is_index : List MachineRow → List FirstByte → Bool
is_index rs ps = are_indexed 0 rs ps && are_tight 0 ps rs

-- the rest of an opcode that goes on there
abbrev pub rest_of : RestPlace → ℕ → ℕ
rest_of Nowhere o = 0
rest_of LowHalf o = o % 16
rest_of SecondByte o = o % 256
rest_of LastByte o = o % 256

-- where the index and the offsets place the row with a first byte and the rest of an opcode
abbrev pub place_in : List FirstByte → List ℕ → ℕ → ℕ → ℕ
place_in ps offsets first rest = let p = get_or ps first no_first_byte in p.start + get_or offsets (p.offsets + rest) 0

-- each row, from the i-th on, stands at its place
unfoldable pub are_placed : ℕ → List MachineRow → List FirstByte → List ℕ → Bool
are_placed i [] ps offsets = true
are_placed i (r ∷ rs) ps offsets = (place_in ps offsets (first_byte_of r) (rest_of (place_of r.format) r.opcode) == i) && are_placed (i + 1) rs ps offsets

-- each first byte has 256 offsets, and its rows and offsets begin where a number of 16 bits can tell
unfoldable pub has_room : List FirstByte → List ℕ → Bool
has_room [] offsets = true
has_room (p ∷ ps) offsets = nat_le (p.offsets + 256) (length offsets) && nat_lt p.offsets 65536 && nat_lt p.start 65536 && has_room ps offsets

-- no row has the first byte and the opcode
abbrev pub LacksRow : List MachineRow → ℕ → ℕ → Type 0
LacksRow rows first opcode = (i : ℕ) → i < length rows → first_byte_of (get_or rows i no_row) ≡ first → (get_or rows i no_row).opcode ≡ opcode → ⊥
