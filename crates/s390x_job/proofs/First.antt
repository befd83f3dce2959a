-- The place of the first of some bytes.
use Rattle.std.proofs.Common.{◌≡◌, ℕ, zero, suc, ◌<◌, ◌≤◌, true, List, [], ◌∷◌, length, take, refl, ap, inl, inr, arith}
use Rattle.std.specs.Prelude.{◌==◌, slice_index}
use Rattle.s390x_job_fields.specs.Marks.{upto}
use Rattle.s390x_job_fields.proofs.Members.{either}

-- what stands before the first c
pub first_at : (c : ℕ) (s : List ℕ) (k : ℕ) → k < length s → ((j : ℕ) → 0 ≤ j → j < k → (slice_index s j == c) ≡ true → ⊥) → (slice_index s k == c) ≡ true → take k s ≡ upto c s
first_at c [] k l n p = absurd (omega (arith, l))
first_at c (x ∷ s) zero l n p = rw p refl
first_at c (x ∷ s) (suc k) l n p =
    elim (either (x == c)) [ inl e ↦ absurd (n 0 (omega arith) (omega arith) e) | inr e ↦ rw e (ap (λ r. x ∷ r) (first_at c s k (omega (arith, l)) (λ j a h. n (suc j) (omega arith) (omega (arith, h))) p)) ]

-- where there is no c
pub first_nowhere : (c : ℕ) (s : List ℕ) → ((j : ℕ) → 0 ≤ j → j < length s → (slice_index s j == c) ≡ true → ⊥) → s ≡ upto c s
first_nowhere c [] n = refl
first_nowhere c (x ∷ s) n =
    elim (either (x == c)) [ inl e ↦ absurd (n 0 (omega arith) (omega arith) e) | inr e ↦ rw e (ap (λ r. x ∷ r) (first_nowhere c s (λ j a h. n (suc j) (omega arith) (omega (arith, h))))) ]
