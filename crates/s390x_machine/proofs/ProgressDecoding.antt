-- Some machine row has the bytes, or none has.
use Rattle.std.proofs.Common.{◌≡◌, ℕ, zero, suc, ◌^◌, ◌<◌, ◌⊎◌, inl, inr, Bool, true, false, List, [], ◌∷◌, length, get_or, take, map, slice_index, refl, sym, ap, ap₂, subst, ◌∙◌, arith, true≢false}
use Rattle.std.specs.List.{range_with_len}
use Rattle.std.proofs.lemmas.List.FromFn.{get_or-map-range_with_len, length-map-range_with_len}
use Rattle.std.proofs.lemmas.Bool.{cases_eq}
use Rattle.s390x_format.specs.declared.kind.FormatKind.{FormatKind}
use Rattle.s390x_format.specs.declared.row.MachineRow.{MachineRow}
use Rattle.s390x_format.specs.declared.decoder.Decoded.{Decoded}
use Rattle.s390x_format.specs.Layout.{number, field, width_of_part, SlotsFit}
use Rattle.s390x_format.specs.Formats.{layout_of, length_of}
use Rattle.s390x_format.specs.Rows.{is_allowed}
use Rattle.s390x_format.specs.Reading.{no_row, encode, be_number}
use Rattle.s390x_format.specs.Fetch.{IsFetch, machine_rows}
use Rattle.s390x_format.specs.View.{fields_of}
use Rattle.s390x_format.proofs.Digits.{field_lt}
use Rattle.s390x_format.proofs.Packing.{layout_slot}
use Rattle.s390x_format.proofs.FormatFacts.{layout_ok}
use Rattle.s390x_format.proofs.OneReading.{fields_same}
use Rattle.s390x_format.proofs.Finding.{whole_number}

-- ---- the only values that the bytes can have in the slots of a format

slots_in : FormatKind → List ℕ → List ℕ
slots_in f bytes = map (field (layout_of f) (be_number (take (length_of f) bytes))) (range_with_len 0 10)

slot_is : (f : FormatKind) (bytes : List ℕ) (k : ℕ) → k < 10 → get_or (slots_in f bytes) k 0 ≡ field (layout_of f) (be_number (take (length_of f) bytes)) k
unfolding slots_in
slot_is f bytes k lt = get_or-map-range_with_len (field (layout_of f) (be_number (take (length_of f) bytes))) 0 10 k k 0 lt (omega arith)

ten_slots : (f : FormatKind) (bytes : List ℕ) → length (slots_in f bytes) ≡ 10
unfolding slots_in
ten_slots f bytes = length-map-range_with_len (field (layout_of f) (be_number (take (length_of f) bytes))) 0 10

slots_fit : (f : FormatKind) (bytes : List ℕ) → SlotsFit (layout_of f) (slots_in f bytes)
slots_fit f bytes = (
  ten_slots f bytes,
  λ k lt. subst (λ (x : ℕ). x < 2 ^ width_of_part k (layout_of f)) (sym (slot_is f bytes k lt))
      (field_lt (layout_of f) (be_number (take (length_of f) bytes)) k (layout_slot (layout_of f) k (layout_ok f) lt).0),
)

-- ---- one row

-- the bytes begin with those of the row, with these values in the slots
record Reads (row : MachineRow) (bytes slots : List ℕ) : Type 0 where
  fit : SlotsFit (layout_of row.format) slots
  code : slice_index slots 0 ≡ row.opcode
  allowed : is_allowed row.allowed slots ≡ true
  bytes_are : take (length_of row.format) bytes ≡ encode row.format slots

only_slots : (row : MachineRow) (bytes slots : List ℕ) → Reads row bytes slots → slots_in row.format bytes ≡ slots
only_slots row bytes slots r =
    let n : number (layout_of row.format) slots ≡ be_number (take (length_of row.format) bytes) = sym (ap be_number r.bytes_are ∙ whole_number row.format slots) in
    fields_same row.format (be_number (take (length_of row.format) bytes)) slots (slots_in row.format bytes) r.fit n (ten_slots row.format bytes) (slot_is row.format bytes)

none_read : (row : MachineRow) (bytes : List ℕ) → (Reads row bytes (slots_in row.format bytes) → ⊥) → (slots : List ℕ) → Reads row bytes slots → ⊥
none_read row bytes unlike slots r = unlike (subst (λ (s : List ℕ). Reads row bytes s) (sym (only_slots row bytes slots r)) r)

same_or_not : (xs ys : List ℕ) → (xs ≡ ys) ⊎ (xs ≡ ys → ⊥)
same_or_not [] [] = inl refl
same_or_not [] (y ∷ ys) = inr (λ e. cc)
same_or_not (x ∷ xs) [] = inr (λ e. cc)
same_or_not (x ∷ xs) (y ∷ ys) = both (cases_eq x y) (same_or_not xs ys)
  where
    both : (x ≡ y) ⊎ (x ≡ y → ⊥) → (xs ≡ ys) ⊎ (xs ≡ ys → ⊥) → (x ∷ xs ≡ y ∷ ys) ⊎ (x ∷ xs ≡ y ∷ ys → ⊥)
    both (inl e) (inl f) = inl (ap₂ (λ (z : ℕ) (zs : List ℕ). z ∷ zs) e f)
    both (inr n) f = inr (λ e. n cc)
    both (inl e) (inr n) = inr (λ f. n cc)

row_decided : (row : MachineRow) (bytes : List ℕ) → Reads row bytes (slots_in row.format bytes) ⊎ (Reads row bytes (slots_in row.format bytes) → ⊥)
row_decided row bytes = by_code (cases_eq (slice_index (slots_in row.format bytes) 0) row.opcode)
  where
    by_bytes : slice_index (slots_in row.format bytes) 0 ≡ row.opcode → is_allowed row.allowed (slots_in row.format bytes) ≡ true →
        (take (length_of row.format) bytes ≡ encode row.format (slots_in row.format bytes)) ⊎ (take (length_of row.format) bytes ≡ encode row.format (slots_in row.format bytes) → ⊥) →
        Reads row bytes (slots_in row.format bytes) ⊎ (Reads row bytes (slots_in row.format bytes) → ⊥)
    by_bytes code allowed (inl e) = inl (record { fit = slots_fit row.format bytes; code = code; allowed = allowed; bytes_are = e })
    by_bytes code allowed (inr unlike) = inr (λ r. unlike r.bytes_are)

    by_allowed : slice_index (slots_in row.format bytes) 0 ≡ row.opcode → (b : Bool) → is_allowed row.allowed (slots_in row.format bytes) ≡ b →
        Reads row bytes (slots_in row.format bytes) ⊎ (Reads row bytes (slots_in row.format bytes) → ⊥)
    by_allowed code true e = by_bytes code e (same_or_not (take (length_of row.format) bytes) (encode row.format (slots_in row.format bytes)))
    by_allowed code false e = inr (λ r. true≢false (sym r.allowed ∙ e))

    by_code : (slice_index (slots_in row.format bytes) 0 ≡ row.opcode) ⊎ (slice_index (slots_in row.format bytes) 0 ≡ row.opcode → ⊥) →
        Reads row bytes (slots_in row.format bytes) ⊎ (Reads row bytes (slots_in row.format bytes) → ⊥)
    by_code (inl e) = by_allowed e (is_allowed row.allowed (slots_in row.format bytes)) refl
    by_code (inr unlike) = inr (λ r. unlike r.code)

-- ---- all rows

-- a row of the table has the bytes
record IsRead (rows : List MachineRow) (bytes : List ℕ) : Type 0 where
  at : ℕ
  below : at < length rows
  slots : List ℕ
  reads : Reads (get_or rows at no_row) bytes slots

-- no row of the table has them
abbrev IsUnread : List MachineRow → List ℕ → Type 0
IsUnread rows bytes = (at : ℕ) → at < length rows → (slots : List ℕ) → Reads (get_or rows at no_row) bytes slots → ⊥

unread : (row : MachineRow) (rows : List MachineRow) (bytes : List ℕ) → (Reads row bytes (slots_in row.format bytes) → ⊥) → IsUnread rows bytes → IsUnread (row ∷ rows) bytes
unread row rows bytes unlike later zero lt slots r = none_read row bytes unlike slots r
unread row rows bytes unlike later (suc at) lt slots r = later at (omega arith) slots r

rows_decided : (rows : List MachineRow) (bytes : List ℕ) → IsRead rows bytes ⊎ IsUnread rows bytes
rows_decided [] bytes = inr (λ at lt slots r. absurd (omega arith))
rows_decided (row ∷ rows) bytes = first (row_decided row bytes) (rows_decided rows bytes)
  where
    first : Reads row bytes (slots_in row.format bytes) ⊎ (Reads row bytes (slots_in row.format bytes) → ⊥) → IsRead rows bytes ⊎ IsUnread rows bytes → IsRead (row ∷ rows) bytes ⊎ IsUnread (row ∷ rows) bytes
    first (inl r) later = inl (record { at = 0; below = omega arith; slots = slots_in row.format bytes; reads = r })
    first (inr unlike) (inl h) = inl (record { at = suc h.at; below = omega (arith, h.below); slots = h.slots; reads = h.reads })
    first (inr unlike) (inr none) = inr (unread row rows bytes unlike none)

-- ---- what is fetched

read_row : (bytes : List ℕ) (d : Decoded) (h : IsFetch bytes d) → Reads (get_or machine_rows h.reading.at no_row) bytes h.slots
read_row bytes d h = record {
  fit = subst (λ (f : FormatKind). SlotsFit (layout_of f) h.slots) h.reading.format h.reading.fit;
  code = h.reading.code ∙ h.reading.opcode;
  allowed = h.reading.allowed;
  bytes_are = subst (λ (f : FormatKind). take (length_of f) bytes ≡ encode f h.slots) h.reading.format h.reading.bytes_are;
}

-- some instruction begins the bytes, or none does
pub data Decides (bytes : List ℕ) : Type 0 where
  Begins : (d : Decoded) → IsFetch bytes d → Decides bytes
  BeginsNone : ((d : Decoded) → IsFetch bytes d → ⊥) → Decides bytes

pub fetch_decided : (bytes : List ℕ) → Decides bytes
fetch_decided bytes = by_rows (rows_decided machine_rows bytes)
  where
    by_rows : IsRead machine_rows bytes ⊎ IsUnread machine_rows bytes → Decides bytes
    by_rows (inl h) =
        let row = get_or machine_rows h.at no_row in
        Begins (record { row = record { format = row.format; opcode = row.opcode }; fields = fields_of row.format h.slots })
        (record {
          slots = h.slots;
          reading = record { at = h.at; in_table = h.below; format = refl; opcode = refl; fit = h.reads.fit; code = h.reads.code; allowed = h.reads.allowed; bytes_are = h.reads.bytes_are };
          fields = refl;
        })
    by_rows (inr none) = BeginsNone (λ d h. none h.reading.at h.reading.in_table h.slots (read_row bytes d h))
