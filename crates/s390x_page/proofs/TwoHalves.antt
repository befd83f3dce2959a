-- Vector registers and their halves.
use Rattle.std.proofs.Common.{◌≡◌, ℕ, ◌+◌, ◌*◌, ◌/◌, ◌%◌, ◌^◌, ◌<◌, List, length, slice_index, inl, inr, sym, ap₂, ◌∙◌, arith}
use Rattle.std.proofs.lemmas.Bool.{cases_lt}
use Rattle.std.proofs.lemmas.List.{get_or_past}

-- the same past the last one
pub everywhere : (v high low : List ℕ) → length v ≡ 32 → length high ≡ 32 → length low ≡ 32 → ((i : ℕ) → i < 32 → slice_index v i ≡ slice_index high i * 2 ^ 64 + slice_index low i) → (i : ℕ) → slice_index v i ≡ slice_index high i * 2 ^ 64 + slice_index low i
everywhere v high low a b c h i =
    elim (cases_lt i 32) [
      | inl less ↦ h i less
      | inr more ↦ get_or_past v i 0 (omega (arith, a)) ∙ sym (ap₂ (λ x y. x * 2 ^ 64 + y) (get_or_past high i 0 (omega (arith, b))) (get_or_past low i 0 (omega (arith, c))))
    ]

-- a number of its halves
pub of_halves : (v high low : List ℕ) → ((i : ℕ) → i < 32 → slice_index high i ≡ slice_index v i / 2 ^ 64) → ((i : ℕ) → i < 32 → slice_index low i ≡ slice_index v i % 2 ^ 64) → (i : ℕ) → i < 32 → slice_index v i ≡ slice_index high i * 2 ^ 64 + slice_index low i
of_halves v high low a b i lt = omega (arith, a i lt, b i lt)
