-- How an instruction is written: the mnemonic of its row, and its operands.
use Rattle.std.proofs.Common.{◌≡◌, ℕ, zero, suc, ◌<◌, ◌≤◌, true, nat_lt, nat_le, ltb-true, leb-true, List, [], ◌∷◌, ◌++◌, length, drop, take, get_or, append_assoc, refl, sym, ap, subst, ◌∙◌, arith, Some}
use Rattle.std.specs.Prelude.{slice_index}
use Rattle.std.proofs.lemmas.Bool.{and_parts}
use Rattle.std.proofs.lemmas.List.{take_all}
use Rattle.s390x_format.specs.declared.row.MachineRow.{MachineRow}
use Rattle.s390x_format.specs.declared.kind.FormatKind.{FormatKind}
use Rattle.s390x_format.specs.declared.fields.Fields.{Fields}
use Rattle.s390x_format.specs.declared.first_bytes.TheConstants.{FIRST_BYTES}
use Rattle.s390x_format.specs.declared.table.TheConstants.{MACHINE_ROWS}
use Rattle.s390x_format.specs.declared.decoder.Located.{Located}
use Rattle.s390x_format.specs.declared.reading.Reading.{Reading}
use Rattle.s390x_format.specs.Layout.{SlotsFit}
use Rattle.s390x_format.specs.Formats.{layout_of, length_of}
use Rattle.s390x_format.specs.Rows.{is_allowed, fetch_length_of}
use Rattle.s390x_format.specs.Reading.{encode, no_row}
use Rattle.s390x_format.specs.View.{fields_of}
use Rattle.s390x_format.specs.Fetch.{IsLocated, machine_rows}
use Rattle.s390x_format.proofs.Fetching.{same_place}
use Rattle.s390x_format.proofs.Finding.{known}
use Rattle.s390x_format.proofs.RowTable.{rows_are, rows_rise, rows_indexed}
use Rattle.s390x_format.specs.declared.spelling.Form.{Form}
use Rattle.s390x_format.specs.declared.spelling.Form.TheVariants.{BranchRegister}
use Rattle.s390x_format.specs.declared.spelling.Suffix.{Suffix}
use Rattle.s390x_disassembler.specs.Forms.{operands_of}
use Rattle.s390x_disassembler.specs.Spelling.{letters_of, choice}
use Rattle.s390x_disassembler.specs.Text.{spellings, spelled_instruction, row_text, found_text, operands_text}
use Rattle.s390x_disassembler.specs.Start.{is_legible, are_legible}
use Rattle.s390x_disassembler.specs.Bare.{no_spelling, is_unit}
use Rattle.s390x_disassembler.proofs.Names.{is_plain, plain_name}

legible_rows : are_legible MACHINE_ROWS spellings ≡ true
unfolding are_legible operands_of
legible_rows = refl

legible_at : (rows : List MachineRow) (ss : List (List ℕ × Suffix × Form)) (i : ℕ) → i < length rows → are_legible rows ss ≡ true → is_legible (get_or rows i no_row) (get_or ss i no_spelling) ≡ true
unfolding are_legible
legible_at [] ss i lt h = absurd (omega (arith, lt))
legible_at (row ∷ rows) [] i lt h = cc
legible_at (row ∷ rows) (s ∷ ss) zero lt h = (and_parts (is_legible row s) (are_legible rows ss) h).0
legible_at (row ∷ rows) (s ∷ ss) (suc i) lt h = legible_at rows ss i (omega (arith, lt)) (and_parts (is_legible row s) (are_legible rows ss) h).1

row_spelled : (ss : List (List ℕ × Suffix × Form)) (a i : ℕ) (f : Fields) → i < length ss → row_text ss a i f ≡ spelled_instruction a (get_or ss i no_spelling) f
unfolding row_text
row_spelled [] a i f lt = absurd (omega (arith, lt))
row_spelled (s ∷ ss) a zero f lt = refl
row_spelled (s ∷ ss) a (suc i) f lt = row_spelled ss a i f (omega (arith, lt))

-- an instruction's first operand is always written
pub first_operand : (form : Form) (a : ℕ) (letters : List ℕ) (f : Fields) → operands_text 32 a letters f (operands_of form) ≡ 32 ∷ drop 1 (operands_text 32 a letters f (operands_of form))
unfolding operands_of
first_operand BranchRegister a letters f = refl
first_operand _ a letters f = refl

-- the row of some bytes, and the values with which it is written
pub record IsRowOf (a : ℕ) (u : List ℕ) (l : Located) (row : MachineRow) (s : List ℕ × Suffix × Form) (values : List ℕ) : Type 0 where
  pub fit : SlotsFit (layout_of row.format) values
  pub opcode : slice_index values 0 ≡ row.opcode
  pub allowed : is_allowed row.allowed values ≡ true
  pub legible : is_legible row s ≡ true
  pub text : found_text a u (Some l) ≡ (s.0 ++ letters_of s.1 (fields_of row.format values)) ++ operands_text 32 a (letters_of s.1 (fields_of row.format values)) (fields_of row.format values) (operands_of s.2)
  pub bytes : is_unit u ≡ true → u ≡ encode row.format values

unit_few : (u : List ℕ) → is_unit u ≡ true → length u ≤ fetch_length_of (slice_index u 0)
unfolding is_unit
unit_few u h = leb-true _ _ (and_parts (nat_lt 0 (length u)) (nat_le (length u) (fetch_length_of (slice_index u 0))) h).1

pub unit_some : (u : List ℕ) → is_unit u ≡ true → 0 < length u
unfolding is_unit
unit_some u h = ltb-true _ _ (and_parts (nat_lt 0 (length u)) (nat_le (length u) (fetch_length_of (slice_index u 0))) h).0

row_of : (a : ℕ) (u : List ℕ) (l : Located) (values : List ℕ) (at : ℕ) (row : MachineRow) → l.at < length MACHINE_ROWS → row ≡ get_or MACHINE_ROWS l.at no_row
    → l.decoded.row.format ≡ row.format → SlotsFit (layout_of l.decoded.row.format) values → slice_index values 0 ≡ row.opcode → is_allowed row.allowed values ≡ true
    → take (length_of l.decoded.row.format) u ≡ encode l.decoded.row.format values → length_of l.decoded.row.format ≡ fetch_length_of (slice_index u 0) → l.decoded.fields ≡ fields_of l.decoded.row.format values
    → IsRowOf a u l row (get_or spellings l.at no_spelling) values
unfolding spelled_instruction
row_of a u l values at row below row_is format fit opcode allowed bytes size fields =
    let f : l.decoded.fields ≡ fields_of row.format values = fields ∙ ap (λ (k : FormatKind). fields_of k values) format in
    record {
      fit = subst (λ (k : FormatKind). SlotsFit (layout_of k) values) format fit;
      opcode = opcode;
      allowed = allowed;
      legible = subst (λ (r : MachineRow). is_legible r (get_or spellings l.at no_spelling) ≡ true) (sym row_is) (legible_at MACHINE_ROWS spellings l.at below legible_rows);
      text = row_spelled spellings a l.at l.decoded.fields below
          ∙ ap (λ (g : Fields). spelled_instruction a (get_or spellings l.at no_spelling) g) f
          ∙ sym (append_assoc (get_or spellings l.at no_spelling).0 (letters_of (get_or spellings l.at no_spelling).1 (fields_of row.format values)) _);
      bytes = λ unit. sym (take_all (length_of l.decoded.row.format) u (omega (arith, size, unit_few u unit))) ∙ bytes ∙ ap (λ (k : FormatKind). encode k values) format;
    }

-- the bytes of an instruction are those of a row
pub located_row : (a : ℕ) (u : List ℕ) (l : Located) → (h : IsLocated u l) → IsRowOf a u l (get_or MACHINE_ROWS l.at no_row) (get_or spellings l.at no_spelling) h.fetch.slots
unfolding machine_rows
located_row a u l h =
    let d : Reading = record { row = l.decoded.row; slots = h.fetch.slots } in
    let r = h.fetch.reading in
    let k = known MACHINE_ROWS FIRST_BYTES u d rows_are rows_indexed r in
    let at : r.at ≡ l.at = same_place MACHINE_ROWS r.at l.at rows_rise r.in_table h.row.below (sym r.opcode ∙ sym h.row.same) in
    let format : l.decoded.row.format ≡ (get_or MACHINE_ROWS l.at no_row).format = r.format ∙ ap (λ (i : ℕ). (get_or MACHINE_ROWS i no_row).format) at in
    row_of a u l h.fetch.slots l.at (get_or MACHINE_ROWS l.at no_row) h.row.below refl format r.fit (r.code ∙ sym h.row.same)
    (subst (λ (i : ℕ). is_allowed (get_or MACHINE_ROWS i no_row).allowed h.fetch.slots ≡ true) at r.allowed) r.bytes_are (ap length_of k.read.format ∙ k.read.bytes_are) h.fetch.fields

pub plain_mnemonic : (j : ℕ) (f : Fields) → is_plain ((get_or spellings j no_spelling).0 ++ letters_of (get_or spellings j no_spelling).1 f) ≡ true
unfolding letters_of
plain_mnemonic j f = plain_name j (choice (get_or spellings j no_spelling).1 f)
