-- What was encoded is fetched again: once, for every row of the table.
use Rattle.std.proofs.Common.{◌≡◌, ℕ, suc, ◌<◌, Bool, true, false, ◌==◌, if◌then◌else◌, List, [], ◌∷◌, ◌++◌, length, get_or, take, append-nil, subst, refl, sym, ap, ◌∙◌, arith}
use Rattle.std.proofs.Math.Seq.{take-append_seam}
use Rattle.s390x_format.specs.declared.row.MachineRow.{MachineRow}
use Rattle.s390x_format.specs.declared.kind.FormatKind.{FormatKind}
use Rattle.s390x_format.specs.declared.reading.Reading.{Reading}
use Rattle.s390x_format.specs.Layout.{number, SlotsFit}
use Rattle.s390x_format.specs.Formats.{layout_of, length_of}
use Rattle.s390x_format.specs.Rows.{is_allowed}
use Rattle.s390x_format.specs.Reading.{no_row, encode, IsReading}
use Rattle.s390x_format.specs.Fetch.{IsFetch, machine_rows}
use Rattle.s390x_format.specs.Encoded.{IsCode, IsEncoded, decoded_of}
use Rattle.s390x_format.specs.Lookup.{row_for, IsListed}
use Rattle.s390x_format.proofs.Bytes.{be_number-be_bytes}

-- a format's code has the format's length
pub encode-length : (kind : FormatKind) (slots : List ℕ) → length (encode kind slots) ≡ length_of kind
encode-length kind slots = (be_number-be_bytes (length_of kind) (number (layout_of kind) slots)).0

abbrev pub reading_of : FormatKind → List ℕ → Reading
reading_of kind slots = record { row = record { format = kind; opcode = get_or slots 0 0 }; slots = slots }

pub encoded_reading : (rows : List MachineRow) (kind : FormatKind) (slots rest : List ℕ) → SlotsFit (layout_of kind) slots → IsEncoded rows kind slots →
    IsReading rows (encode kind slots ++ rest) (reading_of kind slots)
encoded_reading rows kind slots rest fit e =
    record {
      at = e.at;
      in_table = e.in_table;
      format = sym e.format;
      opcode = sym e.opcode;
      fit = fit;
      code = refl;
      allowed = e.allowed;
      bytes_are = ap (λ (k : ℕ). take k (encode kind slots ++ rest)) (sym (encode-length kind slots)) ∙ take-append_seam (encode kind slots) rest;
    }

-- bytes that begin with those of a machine row with values that it allows are fetched as these
pub encoded_fetch : (kind : FormatKind) (slots rest : List ℕ) → SlotsFit (layout_of kind) slots → IsEncoded machine_rows kind slots →
    IsFetch (encode kind slots ++ rest) (decoded_of kind slots)
encoded_fetch kind slots rest fit e = record { slots = slots; reading = encoded_reading machine_rows kind slots rest fit e; fields = refl }

pub encoded_alone : (rows : List MachineRow) (kind : FormatKind) (slots bytes : List ℕ) → SlotsFit (layout_of kind) slots → bytes ≡ encode kind slots → IsEncoded rows kind slots →
    IsReading rows bytes (reading_of kind slots)
encoded_alone rows kind slots bytes fit same e =
    subst (λ (bs : List ℕ). IsReading rows bs (reading_of kind slots)) (append-nil (encode kind slots) ∙ sym same) (encoded_reading rows kind slots [] fit e)

record Place (rows : List MachineRow) (r : MachineRow) : Type 0 where
  at : ℕ
  below : at < length rows
  is : get_or rows at no_row ≡ r

place_miss : (r : MachineRow) (rs : List MachineRow) (o : ℕ) → ((row_for rs o).opcode ≡ o → Place rs (row_for rs o)) → (b : Bool) → (if b then r else row_for rs o).opcode ≡ o →
    Place (r ∷ rs) (if b then r else row_for rs o)
place_miss r rs o p true e = record { at = 0; below = omega arith; is = refl }
place_miss r rs o p false e = let q = p e in record { at = suc q.at; below = omega (arith, q.below); is = q.is }

place_of_row : (rs : List MachineRow) (o : ℕ) → 0 < o → (row_for rs o).opcode ≡ o → Place rs (row_for rs o)
unfolding row_for
place_of_row [] o pos e = absurd (omega arith)
place_of_row (r ∷ rs) o pos e = place_miss r rs o (place_of_row rs o pos) (r.opcode == o) e

-- the table lists the opcode with the format, and its row allows the values
pub listed : (rows : List MachineRow) (kind : FormatKind) (slots : List ℕ) → 0 < get_or slots 0 0 → IsListed rows kind slots → IsEncoded rows kind slots
listed rows kind slots pos h =
    let p = place_of_row rows (get_or slots 0 0) pos h.0 in
    record {
      at = p.at;
      in_table = p.below;
      format = ap (λ (r : MachineRow). r.format) p.is ∙ h.1;
      opcode = ap (λ (r : MachineRow). r.opcode) p.is ∙ h.0;
      allowed = ap (λ (r : MachineRow). is_allowed r.allowed slots) p.is ∙ h.2;
    }

-- the code of a machine row with values that it allows is fetched as that row with those values,
-- whatever comes after it
pub code_fetch : (kind : FormatKind) (slots bytes rest : List ℕ) → IsCode kind slots bytes → IsEncoded machine_rows kind slots → IsFetch (bytes ++ rest) (decoded_of kind slots)
code_fetch kind slots bytes rest h e =
    subst (λ (bs : List ℕ). IsFetch (bs ++ rest) (decoded_of kind slots)) (sym h.bytes_are) (encoded_fetch kind slots rest h.fit e)
