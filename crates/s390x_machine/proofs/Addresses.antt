-- Sums modulo 2 ^ 64, and distances between places.
use Rattle.std.proofs.Common.{◌≡◌, ℕ, suc, ◌+◌, ◌-◌, ◌*◌, ◌/◌, ◌%◌, ◌^◌, ◌<◌, inl, inr, refl, sym, ap, ◌∙◌, arith}
use Rattle.std.specs.Prelude.{ℤ, pos, negsuc, ◌+ℤ◌, ◌*ℤ◌, unsigned_abs}
use Rattle.std.specs.Int.{cast_signed}
use mir.Syntax.{w32}
use Rattle.std.proofs.Math.Nat.{mod-add-mod, add-mod_right}
use Rattle.std.proofs.lemmas.Int.{ints, int_rem_euclid_is, to_z-of_z, to_z_pos}
use Rattle.std.proofs.lemmas.Bool.{cases_lt}
use Rattle.s390x_operations.specs.State.{wrapping_add64}
use Rattle.s390x_operations.specs.Numbers.{low}
use Rattle.s390x_operations.specs.declared.size.Size.TheVariants.{Doubleword}
use Rattle.s390x_typed_steps.specs.Rows.{half_distance}

pub sum_below : (a b : ℕ) → wrapping_add64 a b < 2 ^ 64
sum_below a b = omega arith

-- a sum of a sum
pub sum_more : (base o n : ℕ) → wrapping_add64 (wrapping_add64 base o) n ≡ wrapping_add64 base (o + n)
sum_more base o n = let e : base + o + n ≡ base + (o + n) = omega arith in mod-add-mod (base + o) (2 ^ 64) n ∙ ap (λ z. z % 2 ^ 64) e

-- the signed reading of half a distance, doubled
forward : (o j : ℕ) → j < 2 ^ 31 → half_distance o (o + 2 * j) ≡ j
forward o j lt = omega arith

backward : (t j : ℕ) → 0 < j → j < 2 ^ 31 → half_distance (t + 2 * j) t ≡ 2 ^ 32 - j
backward t j some lt = omega arith

read_forward : (o j : ℕ) → j < 2 ^ 31 → cast_signed w32 (half_distance o (o + 2 * j)) ≡ pos j
read_forward o j lt = ap (cast_signed w32) (forward o j lt) ∙ to_z_pos w32 j lt

read_backward : (t i : ℕ) → suc i < 2 ^ 31 → cast_signed w32 (half_distance (t + 2 * suc i) t) ≡ negsuc i
read_backward t i lt = ap (cast_signed w32) (backward t (suc i) (omega arith) lt) ∙ to_z-of_z w32 (negsuc i) (record { sfits = omega arith })

-- a place plus a distance
pub low_of : (z : ℤ) (m : ℕ) → z +ℤ pos (1 * 2 ^ 64) ≡ pos m → low Doubleword z ≡ m % 2 ^ 64
low_of z m e = ap unsigned_abs (int_rem_euclid_is z (pos (2 ^ 64)) (2 ^ 64) 1 m (omega arith) refl e)

-- a place plus a number of bytes
pub moved : (p n : ℕ) → low Doubleword (pos p +ℤ pos n) ≡ wrapping_add64 p n
moved p n = low_of (pos p +ℤ pos n) (p + n + 2 ^ 64) (omega (arith, ints)) ∙ add-mod_right (p + n) (2 ^ 64)

-- one that doesn't move
pub unmoved : (p : ℕ) → low Doubleword (pos p +ℤ pos 0) ≡ p % 2 ^ 64
unmoved p = low_of (pos p +ℤ pos 0) (p + 2 ^ 64) (omega (arith, ints)) ∙ add-mod_right p (2 ^ 64)

lands_forward : (base o j : ℕ) → low Doubleword (pos (wrapping_add64 base o) +ℤ pos 2 *ℤ pos j) ≡ wrapping_add64 base (o + 2 * j)
lands_forward base o j =
    let m : ℕ = wrapping_add64 base o + 2 * j + 2 ^ 64 in
    let e : pos (wrapping_add64 base o) +ℤ pos 2 *ℤ pos j +ℤ pos (1 * 2 ^ 64) ≡ pos m = omega (arith, ints) in
    low_of (pos (wrapping_add64 base o) +ℤ pos 2 *ℤ pos j) m e ∙ add-mod_right (wrapping_add64 base o + 2 * j) (2 ^ 64) ∙ sum_more base o (2 * j)

lands_backward : (base t i : ℕ) → suc i < 2 ^ 31 → low Doubleword (pos (wrapping_add64 base (t + 2 * suc i)) +ℤ pos 2 *ℤ negsuc i) ≡ wrapping_add64 base t
lands_backward base t i lt =
    let m : ℕ = wrapping_add64 base (t + 2 * suc i) + (2 ^ 64 - 2 * suc i) in
    let e : pos (wrapping_add64 base (t + 2 * suc i)) +ℤ pos 2 *ℤ negsuc i +ℤ pos (1 * 2 ^ 64) ≡ pos m = omega (arith, ints) in
    let f : t + 2 * suc i + (2 ^ 64 - 2 * suc i) ≡ t + 2 ^ 64 = omega arith in
    low_of (pos (wrapping_add64 base (t + 2 * suc i)) +ℤ pos 2 *ℤ negsuc i) m e ∙ sum_more base (t + 2 * suc i) (2 ^ 64 - 2 * suc i) ∙ ap (λ n. wrapping_add64 base n) f ∙ turned base t
  where
    turned : (base t : ℕ) → wrapping_add64 base (t + 2 ^ 64) ≡ wrapping_add64 base t
    turned base t = omega arith

-- from its own place an instruction's distance leads to its target
pub lands : (base o t : ℕ) → o % 2 ≡ 0 → t % 2 ≡ 0 → o < 2 ^ 31 → t < 2 ^ 31 → low Doubleword (pos (wrapping_add64 base o) +ℤ pos 2 *ℤ cast_signed w32 (half_distance o t)) ≡ wrapping_add64 base t
lands base o t eo et lo lt =
    elim (cases_lt t o) [
      | inl less ↦ back ((o - t) / 2 - 1) (omega arith)
      | inr more ↦ on ((t - o) / 2) (omega arith)
    ]
  where
    on : (j : ℕ) → t ≡ o + 2 * j → low Doubleword (pos (wrapping_add64 base o) +ℤ pos 2 *ℤ cast_signed w32 (half_distance o t)) ≡ wrapping_add64 base t
    on j e =
        ap (λ u. low Doubleword (pos (wrapping_add64 base o) +ℤ pos 2 *ℤ cast_signed w32 (half_distance o u))) e
        ∙ ap (λ z. low Doubleword (pos (wrapping_add64 base o) +ℤ pos 2 *ℤ z)) (read_forward o j (omega arith)) ∙ lands_forward base o j ∙ ap (λ n. wrapping_add64 base n) (sym e)

    back : (i : ℕ) → o ≡ t + 2 * suc i → low Doubleword (pos (wrapping_add64 base o) +ℤ pos 2 *ℤ cast_signed w32 (half_distance o t)) ≡ wrapping_add64 base t
    back i e =
        ap (λ u. low Doubleword (pos (wrapping_add64 base u) +ℤ pos 2 *ℤ cast_signed w32 (half_distance u t))) e
        ∙ ap (λ z. low Doubleword (pos (wrapping_add64 base (t + 2 * suc i)) +ℤ pos 2 *ℤ z)) (read_backward t i (omega arith)) ∙ lands_backward base t i (omega arith)
