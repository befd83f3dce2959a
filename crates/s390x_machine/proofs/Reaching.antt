-- Accessible bytes, one after another.
use Rattle.std.proofs.Common.{◌≡◌, ℕ, zero, suc, ◌+◌, ◌<◌, Bool, true, false, ◌&&◌, IsTrue, inl, inr, refl, ap, ap₂, ◌∙◌, arith, add-one, subst}
use Rattle.std.proofs.lemmas.Bool.{cases_lt, and_parts, and_right}
use Rattle.s390x_operations.specs.State.{wrapping_add64, reaches}

pub reaches_none : (has : ℕ → Bool) (a : ℕ) → reaches has a 0 ≡ true
reaches_none has a = refl

pub reaches_more : (has : ℕ → Bool) (a i : ℕ) → reaches has a (i + 1) ≡ (has (wrapping_add64 a i) && reaches has a i)
reaches_more has a i = rw add-one refl

-- one of them
pub reached_at : (has : ℕ → Bool) (a n i : ℕ) → IsTrue (reaches has a n) → i < n → IsTrue (has (wrapping_add64 a i))
reached_at has a zero i h lt = absurd (omega arith)
reached_at has a (suc n) i h lt =
    let parts = and_parts (has (wrapping_add64 a n)) (reaches has a n) h in
    elim (cases_lt i n) [
      | inl less ↦ reached_at has a n i parts.1 less
      | inr more ↦ let e : n ≡ i = omega arith in subst (λ k. IsTrue (has (wrapping_add64 a k))) e parts.0
    ]

pub reaches_next : (has : ℕ → Bool) (a i : ℕ) → has (wrapping_add64 a i) ≡ true → reaches has a i ≡ true → reaches has a (i + 1) ≡ true
reaches_next has a i here before = rw add-one (ap₂ (λ x y. x && y) here before)

-- one of them isn't there
pub reaches_missing : (has : ℕ → Bool) (a n i : ℕ) → i < n → has (wrapping_add64 a i) ≡ false → reaches has a n ≡ false
reaches_missing has a zero i lt h = absurd (omega arith)
reaches_missing has a (suc n) i lt h =
    elim (cases_lt i n) [
      | inl less ↦ ap (λ x. has (wrapping_add64 a n) && x) (reaches_missing has a n i less h) ∙ and_right (has (wrapping_add64 a n)) false refl
      | inr more ↦ let e : n ≡ i = omega arith in ap (λ k. has (wrapping_add64 a k) && reaches has a n) e ∙ ap (λ x. x && reaches has a n) h
    ]

-- all of them are there
pub reaches_all : (has : ℕ → Bool) (a n : ℕ) → ((i : ℕ) → i < n → has (wrapping_add64 a i) ≡ true) → reaches has a n ≡ true
reaches_all has a zero h = refl
reaches_all has a (suc n) h = ap₂ (λ x y. x && y) (h n (omega arith)) (reaches_all has a n (λ i lt. h i (omega arith)))
