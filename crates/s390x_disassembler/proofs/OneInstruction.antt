-- Some bytes are those of one instruction at most, and have one text.
use Rattle.std.proofs.Common.{◌≡◌, ℕ, ◌<◌, true, List, get_or, take, refl, sym, ap, ap₂, subst, ◌∙◌, Option, Some, None}
use Rattle.s390x_format.specs.declared.row.MachineRow.{MachineRow}
use Rattle.s390x_format.specs.declared.index.FirstByte.{FirstByte}
use Rattle.s390x_format.specs.declared.first_bytes.TheConstants.{FIRST_BYTES}
use Rattle.s390x_format.specs.declared.table.TheConstants.{MACHINE_ROWS}
use Rattle.s390x_format.specs.declared.kind.FormatKind.{FormatKind}
use Rattle.s390x_format.specs.declared.reading.Reading.{Reading}
use Rattle.s390x_format.specs.declared.decoder.Located.{Located}
use Rattle.s390x_format.specs.Layout.{field}
use Rattle.s390x_format.specs.Formats.{layout_of}
use Rattle.s390x_format.specs.Rows.{are_rows, rises, fetch_length_of}
use Rattle.s390x_format.specs.Index.{is_index}
use Rattle.s390x_format.specs.Reading.{be_number, no_row, HasOpcode, IsReadAs, IsReading}
use Rattle.s390x_format.specs.View.{fields_of}
use Rattle.s390x_format.specs.Fetch.{machine_rows, IsLocated}
use Rattle.s390x_format.proofs.Packing.{layout_slot, field-number}
use Rattle.s390x_format.proofs.FormatFacts.{layout_ok}
use Rattle.s390x_format.proofs.Fetching.{same_place}
use Rattle.s390x_format.proofs.Finding.{Known, known}
use Rattle.s390x_format.proofs.OneReading.{read_same}
use Rattle.s390x_format.proofs.RowTable.{rows_are, rows_rise, rows_indexed}
use Rattle.s390x_disassembler.specs.Text.{found_text, row_text, spellings}
use Rattle.s390x_disassembler.specs.Lines.{IsFound}

slot_of : (row : MachineRow) (bytes n : ℕ) (d : Reading) → IsReadAs row bytes n d → (k : ℕ) → k < 10 → get_or d.slots k 0 ≡ field (layout_of row.format) n k
slot_of row bytes n d r k lt =
    sym (field-number (layout_of row.format) d.slots k (layout_slot _ k (layout_ok row.format) lt).0 (r.fit.1 k lt)) ∙ ap (λ (z : ℕ). field (layout_of row.format) z k) r.number_is

same_slots : (row : MachineRow) (bytes n : ℕ) (d e : Reading) → IsReadAs row bytes n d → IsReadAs row bytes n e → d.slots ≡ e.slots
same_slots row bytes n d e r s = read_same row bytes n d e.slots r s.fit.0 (slot_of row bytes n e s)

same_at : (rows : List MachineRow) (firsts : List FirstByte) (bs : List ℕ) (d e : Reading) → rises 0 rows ≡ true → (k : Known rows firsts bs d) (m : Known rows firsts bs e) → m.at ≡ k.at
same_at rows firsts bs d e up k m = same_place rows m.at k.at up m.below k.below (m.code ∙ sym k.code)

-- two readings of the same bytes
record AreSame (d e : Reading) : Type 0 where
  format : d.row.format ≡ e.row.format
  opcode : d.row.opcode ≡ e.row.opcode
  slots : d.slots ≡ e.slots

same_reading : (rows : List MachineRow) (firsts : List FirstByte) (bs : List ℕ) (d e : Reading) → are_rows rows ≡ true → is_index rows firsts ≡ true → rises 0 rows ≡ true → IsReading rows bs d → IsReading rows bs e → AreSame d e
same_reading rows firsts bs d e ok index up h g =
    let k = known rows firsts bs d ok index h in
    let m = known rows firsts bs e ok index g in
    let at : m.at ≡ k.at = same_at rows firsts bs d e up k m in
    let s : IsReadAs (get_or rows k.at no_row) (fetch_length_of (get_or bs 0 0)) (be_number (take (fetch_length_of (get_or bs 0 0)) bs)) e = subst (λ (i : ℕ). IsReadAs (get_or rows i no_row) (fetch_length_of (get_or bs 0 0)) (be_number (take (fetch_length_of (get_or bs 0 0)) bs)) e) at m.read in
    record {
      format = k.read.format ∙ sym s.format;
      opcode = k.read.opcode ∙ sym s.opcode;
      slots = same_slots _ _ _ d e k.read s;
    }

-- two instructions of the same bytes have the same fields, and stand at the same place
record SameRow (l m : Located) : Type 0 where
  at : l.at ≡ m.at
  fields : l.decoded.fields ≡ m.decoded.fields

same_row : (l m : Located) (d e : Reading) → AreSame d e → l.decoded.row ≡ d.row → m.decoded.row ≡ e.row → l.decoded.fields ≡ fields_of l.decoded.row.format d.slots → m.decoded.fields ≡ fields_of m.decoded.row.format e.slots
    → HasOpcode MACHINE_ROWS l.decoded.row.opcode l.at → HasOpcode MACHINE_ROWS m.decoded.row.opcode m.at → SameRow l m
same_row l m d e s lr mr lf mf lo mo =
    let op : l.decoded.row.opcode ≡ m.decoded.row.opcode = ap (λ r. r.opcode) lr ∙ s.opcode ∙ ap (λ r. r.opcode) (sym mr) in
    let form : l.decoded.row.format ≡ m.decoded.row.format = ap (λ r. r.format) lr ∙ s.format ∙ ap (λ r. r.format) (sym mr) in
    record {
      at = same_place MACHINE_ROWS l.at m.at rows_rise lo.below mo.below (lo.same ∙ op ∙ sym mo.same);
      fields = lf ∙ ap₂ (λ (f : FormatKind) (ss : List ℕ). fields_of f ss) form s.slots ∙ sym mf;
    }

one_row : (bs : List ℕ) (l m : Located) → IsLocated bs l → IsLocated bs m → SameRow l m
unfolding machine_rows
one_row bs l m h g =
    let d : Reading = record { row = l.decoded.row; slots = h.fetch.slots } in
    let e : Reading = record { row = m.decoded.row; slots = g.fetch.slots } in
    same_row l m d e (same_reading MACHINE_ROWS FIRST_BYTES bs d e rows_are rows_indexed rows_rise h.fetch.reading g.fetch.reading) refl refl h.fetch.fields g.fetch.fields h.row g.row

-- so they have one text
pub one_text : (a : ℕ) (bs : List ℕ) (x y : Option Located) → IsFound bs x → IsFound bs y → found_text a bs x ≡ found_text a bs y
one_text a bs None None h g = refl
one_text a bs None (Some m) h g = absurd (h m.decoded g.fetch)
one_text a bs (Some l) None h g = absurd (g l.decoded h.fetch)
one_text a bs (Some l) (Some m) h g = let s = one_row bs l m h g in ap₂ (λ at f. row_text spellings a at f) s.at s.fields
