-- Which bytes are a row's, from their first byte and their opcode.
use Rattle.std.proofs.Common.{◌≡◌, ℕ, zero, suc, ◌+◌, ◌-◌, ◌*◌, ◌/◌, ◌%◌, ◌^◌, ◌<◌, ◌≤◌, true, ◌==◌, inl, inr, List, [], ◌∷◌, length, get_or, refl, arith, eqb-true, leb-true, nat_le}
use Rattle.std.proofs.lemmas.Nat.{div-mul-add, mod-mul-add}
use Rattle.std.proofs.lemmas.Bool.{and_parts, cases_order}
use Rattle.s390x_format.specs.declared.row.MachineRow.{MachineRow}
use Rattle.s390x_format.specs.declared.kind.FormatKind.{FormatKind}
use Rattle.s390x_format.specs.declared.kind.FormatKind.TheVariants.{E}
use Rattle.s390x_format.specs.Layout.{field, bits}
use Rattle.s390x_format.specs.Formats.{layout_of, length_of, place_of}
use Rattle.s390x_format.specs.Rows.{are_rows, rises, first_of, first_byte_of, fetch_length_of}
use Rattle.s390x_format.specs.declared.index.RestPlace.{RestPlace}
use Rattle.s390x_format.specs.declared.index.RestPlace.TheVariants.{Nowhere, LowHalf, SecondByte, LastByte}
use Rattle.s390x_format.specs.Reading.{opcode_at, rest_at, no_row}
use Rattle.s390x_format.specs.Index.{rest_of}

-- ---- the table
pub row_at : (rs : List MachineRow) (i : ℕ) → are_rows rs ≡ true → i < length rs → fetch_length_of (first_byte_of (get_or rs i no_row)) ≡ length_of (get_or rs i no_row).format
unfolding are_rows
row_at [] i h lt = absurd (omega arith)
row_at (r ∷ rs) zero h lt = eqb-true _ _ (and_parts (fetch_length_of (first_byte_of r) == length_of r.format) (are_rows rs) h).0
row_at (r ∷ rs) (suc i) h lt = row_at rs i (and_parts (fetch_length_of (first_byte_of r) == length_of r.format) (are_rows rs) h).1 (omega arith)

rises_low : (n : ℕ) (rs : List MachineRow) (i : ℕ) → rises n rs ≡ true → i < length rs → n ≤ (get_or rs i no_row).opcode
unfolding rises
rises_low n [] i h lt = absurd (omega arith)
rises_low n (r ∷ rs) zero h lt = leb-true n r.opcode (and_parts (nat_le n r.opcode) (rises (r.opcode + 1) rs) h).0
rises_low n (r ∷ rs) (suc i) h lt =
    let t = and_parts (nat_le n r.opcode) (rises (r.opcode + 1) rs) h in
    let a : n ≤ r.opcode = leb-true n r.opcode t.0 in
    let b : r.opcode + 1 ≤ (get_or rs i no_row).opcode = rises_low (r.opcode + 1) rs i t.1 (omega arith) in omega arith

pub rises_lt : (n : ℕ) (rs : List MachineRow) (i j : ℕ) → rises n rs ≡ true → i < j → j < length rs → (get_or rs i no_row).opcode < (get_or rs j no_row).opcode
unfolding rises
rises_lt n [] i j h lt le = absurd (omega arith)
rises_lt n (r ∷ rs) i zero h lt le = absurd (omega arith)
rises_lt n (r ∷ rs) zero (suc j) h lt le =
    let b : r.opcode + 1 ≤ (get_or rs j no_row).opcode = rises_low (r.opcode + 1) rs j (and_parts (nat_le n r.opcode) (rises (r.opcode + 1) rs) h).1 (omega arith) in omega arith
rises_lt n (r ∷ rs) (suc i) (suc j) h lt le = rises_lt (r.opcode + 1) rs i j (and_parts (nat_le n r.opcode) (rises (r.opcode + 1) rs) h).1 (omega arith) (omega arith)

pub same_place : (rs : List MachineRow) (i j : ℕ) → rises 0 rs ≡ true → i < length rs → j < length rs → (get_or rs i no_row).opcode ≡ (get_or rs j no_row).opcode → i ≡ j
same_place rs i j h li lj e =
    elim (cases_order i j) [
      | inl same ↦ same
      | inr other ↦ elim other [
        | inl lt ↦ absurd (omega (arith, rises_lt 0 rs i j h lt lj, e))
        | inr gt ↦ absurd (omega (arith, rises_lt 0 rs j i h gt li, e))
      ]
    ]

-- ---- the opcode in a number
pub field_opcode : (f : FormatKind) (n : ℕ) → field (layout_of f) n 0 ≡ opcode_at (place_of f) (8 * length_of f) n
unfolding field bits layout_of place_of length_of
field_opcode E n = omega arith
field_opcode _ n = omega arith

pub first_place : (p : RestPlace) (t n : ℕ) → first_of p (opcode_at p t n) ≡ n / 2 ^ (t - 8) % 256
first_place Nowhere t n = refl
first_place LowHalf t n = div-mul-add (n / 2 ^ (t - 8) % 256) 16 (n / 2 ^ (t - 16) % 16) (omega arith)
first_place SecondByte t n = div-mul-add (n / 2 ^ (t - 8) % 256) 256 (n / 2 ^ (t - 16) % 256) (omega arith)
first_place LastByte t n = div-mul-add (n / 2 ^ (t - 8) % 256) 256 (n % 256) (omega arith)

pub rest_place : (p : RestPlace) (t n : ℕ) → rest_of p (opcode_at p t n) ≡ rest_at p t n
rest_place Nowhere t n = refl
rest_place LowHalf t n = mod-mul-add (n / 2 ^ (t - 8) % 256) 16 (n / 2 ^ (t - 16) % 16) (omega arith)
rest_place SecondByte t n = mod-mul-add (n / 2 ^ (t - 8) % 256) 256 (n / 2 ^ (t - 16) % 256) (omega arith)
rest_place LastByte t n = mod-mul-add (n / 2 ^ (t - 8) % 256) 256 (n % 256) (omega arith)
