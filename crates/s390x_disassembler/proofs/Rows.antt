-- The text of the row at a place of a table of spellings.
use Rattle.std.proofs.Common.{◌≡◌, ℕ, zero, suc, ◌<◌, ◌≤◌, List, [], ◌∷◌, length, map, slice_index_or, refl, Bor, arith}
use Rattle.s390x_format.specs.declared.fields.Fields.{Fields}
use Rattle.s390x_format.specs.declared.spelling.Form.{Form}
use Rattle.s390x_format.specs.declared.spelling.Suffix.{Suffix}
use Rattle.s390x_disassembler.specs.Text.{plain_row, row_text, spelled_instruction}

pub row_at : (rows : List (Bor (List ℕ) × Suffix × Form)) (a i : ℕ) (f : Fields) (d : Bor (List ℕ) × Suffix × Form) → i < length rows → row_text (map (λ row. plain_row row) rows) a i f ≡ spelled_instruction a (plain_row (slice_index_or rows i d)) f
unfolding row_text
row_at [] a i f d lt = absurd (omega arith)
row_at (row ∷ rows) a zero f d lt = refl
row_at (row ∷ rows) a (suc i) f d lt = row_at rows a i f d (omega arith)

pub row_past : (rows : List (Bor (List ℕ) × Suffix × Form)) (a i : ℕ) (f : Fields) → length rows ≤ i → row_text (map (λ row. plain_row row) rows) a i f ≡ []
unfolding row_text
row_past [] a i f le = refl
row_past (row ∷ rows) a zero f le = absurd (omega arith)
row_past (row ∷ rows) a (suc i) f le = row_past rows a i f (omega arith)
