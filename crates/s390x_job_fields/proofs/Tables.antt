-- The table of marks, checked entry by entry.
use Rattle.std.proofs.Common.{◌≡◌, ℕ, ◌<◌, false, refl}
use Rattle.std.specs.Prelude.{slice_index_or}
use Rattle.std.proofs.lemmas.Bool.{agree_below_at}
use Rattle.s390x_job_fields.specs.Marks.{is_mark}
use Rattle.s390x_job_fields.specs.declared.separators.TheConstants.{MARKS}

pub mark_at : (x : ℕ) → x < 256 → slice_index_or MARKS x false ≡ is_mark x
mark_at x small = agree_below_at (λ b. slice_index_or MARKS b false) is_mark 256 x refl small
