-- The row of an opcode stands where the index tells, with its stem beside it.
use Rattle.std.proofs.Common.{◌≡◌, ℕ, zero, suc, ◌<◌, ◌≤◌, ◌==◌, ◌&&◌, Bool, true, false, if◌then◌else◌, List, [], ◌∷◌, Bor, length, get_or, slice_index_or, refl, sym, ap, subst, ◌∙◌, arith, eqb-true, eq-eqb, ne_eqb, true≢false}
use Rattle.std.proofs.lemmas.Bool.{and_parts}
use Rattle.std.proofs.lemmas.List.{get_or-map, get_or_past, length-map}
use Rattle.std.proofs.lemmas.List.Folds.{list_all_at}
use Rattle.std.specs.List.{list_all}
use Rattle.s390x_format.specs.declared.index.FirstByte.{FirstByte}
use Rattle.s390x_format.specs.declared.row.MachineRow.{MachineRow}
use Rattle.s390x_format.specs.declared.spelling.Form.{Form}
use Rattle.s390x_format.specs.declared.spelling.Suffix.{Suffix}
use Rattle.s390x_format.specs.declared.table.TheConstants.{MACHINE_ROWS}
use Rattle.s390x_format.specs.declared.first_bytes.TheConstants.{FIRST_BYTES}
use Rattle.s390x_format.specs.declared.row_offsets.TheConstants.{ROW_OFFSETS}
use Rattle.s390x_format.specs.Formats.{place_of}
use Rattle.s390x_format.specs.Index.{are_placed, place_in, rest_of}
use Rattle.s390x_format.specs.Reading.{no_row}
use Rattle.s390x_format.specs.Rows.{first_byte_of}
use Rattle.s390x_format.specs.Stems.{IsOnlyAt, first_digits, indexed_place, last_digits, place_for, stems_passed}
use Rattle.s390x_format.proofs.RowTable.{rows_placed}
use Rattle.s390x_format.proofs.Searching.{row_placed}

-- ---- an opcode's digits tell what its row's format does

has_digits : MachineRow → Bool
has_digits r = (first_byte_of r == first_digits r.opcode) && (rest_of (place_of r.format) r.opcode == last_digits r.opcode)

rows_have_digits : list_all has_digits MACHINE_ROWS ≡ true
unfolding has_digits place_of
rows_have_digits = refl

row_has_digits : (rows : List MachineRow) (i : ℕ) → list_all has_digits rows ≡ true → i < length rows → has_digits (get_or rows i no_row) ≡ true
row_has_digits rows i all lt = listed (has_digits (get_or rows i no_row)) refl
  where
    listed : (b : Bool) → has_digits (get_or rows i no_row) ≡ b → has_digits (get_or rows i no_row) ≡ true
    listed true e = e
    listed false e = absurd (true≢false (sym all ∙ list_all_at has_digits rows i no_row lt e))

only_by_digits : (rows : List MachineRow) (ps : List FirstByte) (offsets : List ℕ) (opcode i : ℕ) → are_placed 0 rows ps offsets ≡ true → list_all has_digits rows ≡ true → i < length rows → (get_or rows i no_row).opcode ≡ opcode
    → i ≡ place_in ps offsets (first_digits opcode) (last_digits opcode)
unfolding has_digits
only_by_digits rows ps offsets opcode i placed all lt e =
    let r : MachineRow = get_or rows i no_row in
    let t = and_parts (first_byte_of r == first_digits r.opcode) (rest_of (place_of r.format) r.opcode == last_digits r.opcode) (row_has_digits rows i all lt) in
    sym (row_placed rows ps offsets i placed lt)
    ∙ ap (λ (n : ℕ). place_in ps offsets n (rest_of (place_of r.format) r.opcode)) (eqb-true (first_byte_of r) (first_digits r.opcode) t.0)
    ∙ ap (λ (n : ℕ). place_in ps offsets (first_digits r.opcode) n) (eqb-true (rest_of (place_of r.format) r.opcode) (last_digits r.opcode) t.1)
    ∙ ap (λ (o : ℕ). place_in ps offsets (first_digits o) (last_digits o)) e

pub only_there : (opcode : ℕ) → IsOnlyAt MACHINE_ROWS opcode (indexed_place opcode)
unfolding indexed_place
only_there opcode i lt e = only_by_digits MACHINE_ROWS FIRST_BYTES ROW_OFFSETS opcode i rows_placed rows_have_digits lt e

-- ---- the place of an opcode that one row alone may have

first_is_none : (n : ℕ) → 0 ≡ suc n → ⊥
first_is_none n e = absurd (omega (arith, e))

next_place : (i at : ℕ) → suc i ≡ suc at → i ≡ at
next_place i at e = omega (arith, e)

place_here : (rows : List MachineRow) (opcode at : ℕ) → IsOnlyAt rows opcode at → at < length rows → (get_or rows at no_row).opcode ≡ opcode → place_for rows opcode ≡ at
unfolding place_for
place_here [] opcode at only lt here = absurd (omega arith)
place_here (r ∷ rows) opcode zero only lt here = ap (λ (b : Bool). if b then 0 else suc (place_for rows opcode)) (eq-eqb r.opcode opcode here)
place_here (r ∷ rows) opcode (suc at) only lt here =
    ap (λ (b : Bool). if b then 0 else suc (place_for rows opcode)) (ne_eqb r.opcode opcode (λ same. first_is_none at (only 0 (omega arith) same)))
    ∙ ap suc (place_here rows opcode at (λ i l e. next_place i at (only (suc i) (omega (arith, l)) e)) (omega (arith, lt)) here)

place_past : (rows : List MachineRow) (opcode : ℕ) → ((i : ℕ) → i < length rows → (get_or rows i no_row).opcode ≡ opcode → ⊥) → place_for rows opcode ≡ length rows
unfolding place_for
place_past [] opcode none = refl
place_past (r ∷ rows) opcode none =
    ap (λ (b : Bool). if b then 0 else suc (place_for rows opcode)) (ne_eqb r.opcode opcode (λ same. none 0 (omega arith) same))
    ∙ ap suc (place_past rows opcode (λ i l e. none (suc i) (omega (arith, l)) e))

-- ---- its stem

any_default : (rows : List MachineRow) (i : ℕ) (y z : MachineRow) → i < length rows → get_or rows i y ≡ get_or rows i z
any_default [] i y z lt = absurd (omega arith)
any_default (r ∷ rows) zero y z lt = refl
any_default (r ∷ rows) (suc i) y z lt = any_default rows i y z (omega (arith, lt))

pub stem_there : (rows : List MachineRow) (spellings : List (Bor (List ℕ) × Suffix × Form)) (opcode at : ℕ) (r : MachineRow) (d : Bor (List ℕ) × Suffix × Form) → length spellings ≡ length rows → IsOnlyAt rows opcode at → at < length rows
    → (get_or rows at r).opcode ≡ opcode → (slice_index_or spellings at d).0.now ≡ get_or (stems_passed spellings) (place_for rows opcode) []
stem_there rows spellings opcode at r d beside only lt here =
    let same : get_or rows at no_row ≡ get_or rows at r = any_default rows at no_row r lt in
    sym (get_or-map (λ (s : Bor (List ℕ) × Suffix × Form). s.0.now) spellings at d [] (omega (arith, lt, beside)))
    ∙ ap (λ (n : ℕ). get_or (stems_passed spellings) n []) (sym (place_here rows opcode at only lt (ap (λ (x : MachineRow). x.opcode) same ∙ here)))

no_stem : (rows : List MachineRow) (spellings : List (Bor (List ℕ) × Suffix × Form)) (opcode : ℕ) → length spellings ≡ length rows → ((i : ℕ) → i < length rows → (get_or rows i no_row).opcode ≡ opcode → ⊥)
    → [] ≡ get_or (stems_passed spellings) (place_for rows opcode) []
no_stem rows spellings opcode beside none =
    let long : length (stems_passed spellings) ≡ length spellings = length-map spellings (λ (s : Bor (List ℕ) × Suffix × Form). s.0.now) in
    sym (get_or_past (stems_passed spellings) (place_for rows opcode) [] (omega (arith, long, beside, place_past rows opcode none)))

pub no_stem_past : (rows : List MachineRow) (spellings : List (Bor (List ℕ) × Suffix × Form)) (opcode at : ℕ) → length spellings ≡ length rows → IsOnlyAt rows opcode at → length rows ≤ at → [] ≡ get_or (stems_passed spellings) (place_for rows opcode) []
no_stem_past rows spellings opcode at beside only past = no_stem rows spellings opcode beside (λ i l e. absurd (omega (arith, l, past, only i l e)))

pub no_stem_other : (rows : List MachineRow) (spellings : List (Bor (List ℕ) × Suffix × Form)) (opcode at : ℕ) (r : MachineRow) → length spellings ≡ length rows → IsOnlyAt rows opcode at → at < length rows
    → ((get_or rows at r).opcode ≡ opcode → ⊥) → [] ≡ get_or (stems_passed spellings) (place_for rows opcode) []
no_stem_other rows spellings opcode at r beside only lt other =
    let same : get_or rows at no_row ≡ get_or rows at r = any_default rows at no_row r lt in
    no_stem rows spellings opcode beside
    (λ i l e. other (ap (λ (x : MachineRow). x.opcode) (sym same) ∙ subst (λ (n : ℕ). (get_or rows n no_row).opcode ≡ opcode) (only i l e) e))
