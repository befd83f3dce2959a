-- What the decoder's table proves: bytes belong to at most one row, and the bytes of a row are fetched as it. The only file here that cites the lemmas of the formats.
use Rattle.std.proofs.Common.{◌≡◌, ℕ, zero, suc, ◌+◌, ◌<◌, Bool, true, false, cond, ◌==◌, List, [], ◌∷◌, length, get_or, take, refl, sym, ap, ◌∙◌, subst, arith, true≢false}
use Rattle.std.proofs.lemmas.Bool.{eq-eqb}
use Rattle.s390x_format.specs.declared.row.MachineRow.{MachineRow}
use Rattle.s390x_format.specs.declared.kind.FormatKind.{FormatKind}
use Rattle.s390x_format.specs.declared.reading.Reading.{Reading}
use Rattle.s390x_format.specs.declared.decoder.Decoded.{Decoded}
use Rattle.s390x_format.specs.declared.index.FirstByte.{FirstByte}
use Rattle.s390x_format.specs.declared.table.TheConstants.{MACHINE_ROWS}
use Rattle.s390x_format.specs.declared.first_bytes.TheConstants.{FIRST_BYTES}
use Rattle.s390x_format.specs.Index.{is_index}
use Rattle.s390x_format.specs.Rows.{are_rows, rises, rows_with, first_byte_of, fetch_length_of}
use Rattle.s390x_format.specs.Layout.{SlotsFit, field}
use Rattle.s390x_format.specs.Formats.{layout_of, length_of, place_of}
use Rattle.s390x_format.specs.Reading.{encode, be_number, no_row, IsReading, IsReadAs}
use Rattle.s390x_format.specs.View.{fields_of}
use Rattle.s390x_format.specs.Fetch.{IsFetch, machine_rows}
use Rattle.s390x_format.specs.Encoded.{IsEncoded, decoded_of}
use Rattle.s390x_format.proofs.Finding.{known}
use Rattle.s390x_format.proofs.Fetching.{same_place}
use Rattle.s390x_format.proofs.Packing.{layout_slot, field-number}
use Rattle.s390x_format.proofs.FormatFacts.{layout_ok}
use Rattle.s390x_format.proofs.OneReading.{read_same}
use Rattle.s390x_format.proofs.RowTable.{rows_are, rows_rise, rows_indexed}
use Rattle.s390x_format.proofs.Encoding.{encoded_alone}
use Rattle.s390x_format.proofs.Lengths.{first_tells}

same_reading : (d e : Reading) → d.row.format ≡ e.row.format → d.row.opcode ≡ e.row.opcode → d.slots ≡ e.slots → d ≡ e
same_reading d e f o s = λ i. record { row = record { format = f i; opcode = o i }; slots = s i }

-- the values in the slots are those of the number
values_at : (row : MachineRow) (count n : ℕ) (d : Reading) → IsReadAs row count n d → (k : ℕ) → k < 10 → get_or d.slots k 0 ≡ field (layout_of row.format) n k
values_at row count n d r k lt =
    sym (field-number (layout_of row.format) d.slots k (layout_slot _ k (layout_ok row.format) lt).0 (r.fit.1 k lt)) ∙ ap (λ (z : ℕ). field (layout_of row.format) z k) r.number_is

read_alike : (row : MachineRow) (count n : ℕ) (d e : Reading) → IsReadAs row count n d → IsReadAs row count n e → d ≡ e
read_alike row count n d e rd re =
    same_reading d e (rd.format ∙ sym re.format) (rd.opcode ∙ sym re.opcode) (read_same row count n d e.slots rd re.fit.0 (λ k lt. values_at row count n e re k lt))

one_reading : (rows : List MachineRow) (firsts : List FirstByte) → are_rows rows ≡ true → is_index rows firsts ≡ true → rises 0 rows ≡ true → (bytes : List ℕ) (d e : Reading) → IsReading rows bytes d → IsReading rows bytes e → d ≡ e
one_reading rows firsts ok index up bytes d e hd he =
    let kd = known rows firsts bytes d ok index hd in
    let ke = known rows firsts bytes e ok index he in
    let same : ke.at ≡ kd.at = same_place rows ke.at kd.at up ke.below kd.below (ke.code ∙ sym kd.code) in
    let count = fetch_length_of (get_or bytes 0 0) in
    read_alike (get_or rows kd.at no_row) count (be_number (take count bytes)) d e kd.read (subst (λ i. IsReadAs (get_or rows i no_row) count (be_number (take count bytes)) e) same ke.read)

same_decoded : (d e : Decoded) → d.row ≡ e.row → d.fields ≡ e.fields → d ≡ e
same_decoded d e r f = λ i. record { row = r i; fields = f i }

-- no bytes belong to two rows
pub one_fetch : (bytes : List ℕ) (d e : Decoded) → IsFetch bytes d → IsFetch bytes e → d ≡ e
unfolding machine_rows
one_fetch bytes d e hd he =
    let same = one_reading MACHINE_ROWS FIRST_BYTES rows_are rows_indexed rows_rise bytes (record { row = d.row; slots = hd.slots }) (record { row = e.row; slots = he.slots }) hd.reading he.reading in
    same_decoded d e (ap (λ (x : Reading). x.row) same) (hd.fields ∙ ap (λ (x : Reading). fields_of x.row.format x.slots) same ∙ sym he.fields)

-- ---- bytes that are no row's

one_more : (b : ℕ) (r : MachineRow) (rs : List MachineRow) → rows_with b (r ∷ rs) ≡ 0 → (first_byte_of r ≡ b → ⊥) × (rows_with b rs ≡ 0)
unfolding rows_with
one_more b r rs none = go (first_byte_of r == b) refl none
  where
    go : (t : Bool) → (first_byte_of r == b) ≡ t → cond t 1 0 + rows_with b rs ≡ 0 → (first_byte_of r ≡ b → ⊥) × (rows_with b rs ≡ 0)
    go true e h = absurd (omega (arith, h))
    go false e h = (λ same. true≢false (sym (eq-eqb (first_byte_of r) b same) ∙ e), omega (arith, h))

none_with : (b : ℕ) (rows : List MachineRow) → rows_with b rows ≡ 0 → (at : ℕ) → at < length rows → first_byte_of (get_or rows at no_row) ≡ b → ⊥
none_with b [] none at lt is = absurd (omega arith)
none_with b (r ∷ rs) none zero lt is = (one_more b r rs none).0 is
none_with b (r ∷ rs) none (suc at) lt is = none_with b rs (one_more b r rs none).1 at (omega arith) is

no_zeros : rows_with 0 MACHINE_ROWS ≡ 0
unfolding rows_with place_of
no_zeros = refl

-- no row begins with a byte of zeros
pub none_begins : (bytes : List ℕ) (d : Decoded) → IsFetch bytes d → get_or bytes 0 0 ≡ 0 → ⊥
unfolding machine_rows
none_begins bytes d h first =
    let k = known MACHINE_ROWS FIRST_BYTES bytes (record { row = d.row; slots = h.slots }) rows_are rows_indexed h.reading in
    none_with 0 MACHINE_ROWS no_zeros k.at k.below (k.first ∙ first)

-- the bytes of a row are fetched as that row
pub encoded_fetched : (kind : FormatKind) (slots : List ℕ) → SlotsFit (layout_of kind) slots → IsEncoded machine_rows kind slots → IsFetch (encode kind slots) (decoded_of kind slots)
encoded_fetched kind slots fit e = record { slots = slots; reading = encoded_alone machine_rows kind slots (encode kind slots) fit refl e; fields = refl }

-- their first byte tells how many they are
pub encoded_length : (kind : FormatKind) (slots : List ℕ) → SlotsFit (layout_of kind) slots → IsEncoded machine_rows kind slots → fetch_length_of (get_or (encode kind slots) 0 0) ≡ length_of kind
encoded_length kind slots fit e = first_tells kind slots (encode kind slots) fit refl e
