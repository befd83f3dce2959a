-- The name in a row of a table.
use Rattle.std.proofs.Common.{◌≡◌, ℕ, zero, suc, ◌<◌, List, [], ◌∷◌, length, slice_index_or, refl, Bor, arith}
use Rattle.s390x_job_fields.specs.Found.{rows_of, name_at}

pub at_row : {A : Type 0} (table : List (A × Bor (List ℕ))) (n : ℕ) (d : A × Bor (List ℕ)) → n < length table → (slice_index_or table n d).1.now ≡ name_at (rows_of table) n
at_row [] n d lt = absurd (omega arith)
at_row (row ∷ table) zero d lt = refl
at_row (row ∷ table) (suc n) d lt = at_row table n d (omega arith)
