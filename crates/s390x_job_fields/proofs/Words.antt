-- What stands behind a word begins at its length.
use Rattle.std.proofs.Common.{◌≡◌, ℕ, List, [], ◌∷◌, length, drop, refl, inl, inr}
use Rattle.s390x_job_fields.specs.Marks.{is_mark, before_mark, from_mark}
use Rattle.s390x_job_fields.proofs.Members.{either}

pub behind_word : (s : List ℕ) → drop (length (before_mark s)) s ≡ from_mark s
behind_word [] = refl
behind_word (x ∷ s) = elim (either (is_mark x)) [ inl e ↦ rw e refl | inr e ↦ rw e (behind_word s) ]
