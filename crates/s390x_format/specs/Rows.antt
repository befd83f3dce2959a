-- The machine rows: which masks and immediates they allow, of those that the instructions have (Principles of Operation, chapter 7,
-- "General instructions", and chapters 21 and 22), and which length a first byte tells (chapter 5, "Instruction formats").
use Rattle.std.specs.Prelude.{ℕ, ◌+◌, ◌-◌, ◌*◌, ◌/◌, ◌^◌, Bool, true, ◌&&◌, ◌||◌, ◌==◌, nat_le, nat_lt, List, [], ◌∷◌, slice_index, if◌then◌else◌}
use Rattle.s390x_format.specs.declared.row.MachineRow.{MachineRow}
use Rattle.s390x_format.specs.declared.row.Allowed.{Allowed}
use Rattle.s390x_format.specs.declared.row.Allowed.TheVariants.{Any, FirstMask, CountMode, ComparedLanes, DoublewordPair, RotateBits, RotateBitsOrTest, BitRange, ReplicatedLane}
use Rattle.s390x_format.specs.declared.index.RestPlace.{RestPlace}
use Rattle.s390x_format.specs.declared.index.RestPlace.TheVariants.{Nowhere, LowHalf, SecondByte, LastByte}
use Rattle.s390x_format.specs.Formats.{place_of, length_of}

-- the row allows the masks and immediates in the slots; slots 5 to 7 have the masks and the
-- immediates of 8 bits, slot 8 the wider immediate
abbrev pub is_allowed : Allowed → List ℕ → Bool
is_allowed Any s = true
is_allowed (FirstMask low high) s = nat_le low (slice_index s 5) && nat_le (slice_index s 5) high && (slice_index s 6 == 0) && (slice_index s 7 == 0)
is_allowed CountMode s = ((slice_index s 5 == 0) || (slice_index s 5 == 8)) && (slice_index s 6 == 0)
is_allowed ComparedLanes s = nat_le (slice_index s 5) 4 && nat_le (slice_index s 6) 1
is_allowed DoublewordPair s =
    ((slice_index s 5 == 0) || (slice_index s 5 == 1) || (slice_index s 5 == 4) || (slice_index s 5 == 5)) && (slice_index s 6 == 0) && (slice_index s 7 == 0)
is_allowed RotateBits s = nat_lt (slice_index s 5) 64 && nat_lt (slice_index s 6) 64 && nat_lt (slice_index s 7) 64
is_allowed RotateBitsOrTest s =
    (nat_lt (slice_index s 5) 64 || (nat_le 128 (slice_index s 5) && nat_lt (slice_index s 5) 192)) && nat_lt (slice_index s 6) 64 && nat_lt (slice_index s 7) 64
is_allowed BitRange s =
    nat_lt (slice_index s 7) 4 && nat_lt (slice_index s 5) (8 * 2 ^ slice_index s 7) && nat_lt (slice_index s 6) (8 * 2 ^ slice_index s 7)
is_allowed ReplicatedLane s = nat_lt (slice_index s 5) 4 && nat_lt (slice_index s 8) (2 ^ (4 - slice_index s 5))

-- the length that the first two bits of the first byte tell: 00 for 2, 01 and 10 for 4, 11 for 6
abbrev pub fetch_length_of : ℕ → ℕ
fetch_length_of b = if nat_lt b 64 then 2 else (if nat_lt b 192 then 4 else 6)

-- the first byte of an opcode that goes on there
abbrev pub first_of : RestPlace → ℕ → ℕ
first_of Nowhere o = o
first_of LowHalf o = o / 16
first_of SecondByte o = o / 256
first_of LastByte o = o / 256

-- the first byte of a row
abbrev pub first_byte_of : MachineRow → ℕ
first_byte_of r = first_of (place_of r.format) r.opcode

-- each row's first byte tells its length
unfoldable pub are_rows : List MachineRow → Bool
are_rows [] = true
are_rows (r ∷ rs) = (fetch_length_of (first_byte_of r) == length_of r.format) && are_rows rs

-- the opcodes rise, from n on
unfoldable pub rises : ℕ → List MachineRow → Bool
rises n [] = true
rises n (r ∷ rs) = nat_le n r.opcode && rises (r.opcode + 1) rs

-- how many rows have the first byte
unfoldable pub rows_with : ℕ → List MachineRow → ℕ
rows_with b [] = 0
rows_with b (r ∷ rs) = (if first_byte_of r == b then 1 else 0) + rows_with b rs
