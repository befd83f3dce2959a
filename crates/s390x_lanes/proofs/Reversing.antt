-- Lanes in reverse order: wide ones, whose halves then change places, are narrow ones.
use Rattle.std.proofs.Common.{◌≡◌, ℕ, zero, suc, ◌+◌, ◌-◌, ◌*◌, ◌/◌, ◌%◌, ◌^◌, ◌<◌, ◌≤◌, ◌⊎◌, inl, inr, refl, sym, ap, ap₂, ◌∙◌, subst, arith, bit_or}
use Rattle.std.proofs.Math.Pow.{pow_pos}
use Rattle.std.proofs.lemmas.Nat.{mod_below, mod_low, or_shifted, shr_high, shr_split}
use Rattle.s390x_lanes.specs.Elements.{element_shifted}
use Rattle.s390x_lanes.specs.Lanes.{lane, from_lanes}
use Rattle.s390x_lanes.specs.Places.{chosen_doubleword}
use Rattle.s390x_lanes.specs.declared.operators.ShiftOperator.TheVariants.{RotateLeft}
use Rattle.s390x_lanes.proofs.Building.{build_lt, lane_lt, lane-from_lanes}
use Rattle.s390x_lanes.proofs.Powers.{high_lt, twice}
use Rattle.s390x_lanes.proofs.Splitting.{lane_left, lane_right, same_lanes}

-- n lanes of w bits in reverse order
abbrev pub in_reverse : (w n x : ℕ) → ℕ
in_reverse w n x = from_lanes w n (λ i. lane w x (n - 1 - i))

-- n lanes of w bits, each rotated by so many bits
abbrev pub rotated : (w n k x : ℕ) → ℕ
rotated w n k x = from_lanes w n (λ i. element_shifted RotateLeft w (lane w x i) k)

spread : (q r p : ℕ) → (q * p + r) * p ≡ q * (p * p) + r * p
spread q r p = grind arith

-- the halves of an element change places
exchanged : (w z : ℕ) → z < 2 ^ (2 * w) → element_shifted RotateLeft (2 * w) z w ≡ z % 2 ^ w * 2 ^ w + z / 2 ^ w
exchanged w z lt =
    let p = 2 ^ w in
    let low : z % p < p = mod_below z p (pow_pos w) in
    let split : z / p * p + z % p ≡ z = shr_split z w in
    let wide : z * p ≡ z / p * 2 ^ (2 * w) + z % p * p = ap (λ n. n * p) (sym split) ∙ spread (z / p) (z % p) p ∙ ap (λ n. z / p * n + z % p * p) (sym (twice w)) in
    let small : z % p * p < 2 ^ (2 * w) = grind (arith, twice w, low, pow_pos w) in
    let left : z * p % 2 ^ (2 * w) ≡ z % p * p = ap (λ n. n % 2 ^ (2 * w)) wide ∙ mod_low (z / p) (2 * w) (z % p * p) small in
    let d : 2 * w - w ≡ w = omega arith in
    ap₂ bit_or left (ap (λ k. z / 2 ^ k) d) ∙ or_shifted (z % p) w (z / p) (high_lt w z lt)

exchanged_lt : (w z : ℕ) → z < 2 ^ (2 * w) → element_shifted RotateLeft (2 * w) z w < 2 ^ (2 * w)
exchanged_lt w z lt =
    let p = 2 ^ w in
    let low : z % p < p = mod_below z p (pow_pos w) in
    rw (exchanged w z lt) (grind (arith, twice w, low, high_lt w z lt))

exchanged_left : (w z : ℕ) → z < 2 ^ (2 * w) → element_shifted RotateLeft (2 * w) z w / 2 ^ w ≡ z % 2 ^ w
exchanged_left w z lt = ap (λ n. n / 2 ^ w) (exchanged w z lt) ∙ shr_high (z % 2 ^ w) w (z / 2 ^ w) (high_lt w z lt)

exchanged_right : (w z : ℕ) → z < 2 ^ (2 * w) → element_shifted RotateLeft (2 * w) z w % 2 ^ w ≡ z / 2 ^ w
exchanged_right w z lt = ap (λ n. n % 2 ^ w) (exchanged w z lt) ∙ mod_low (z % 2 ^ w) w (z / 2 ^ w) (high_lt w z lt)

-- a number is even or odd
halves : (k : ℕ) → (k ≡ 2 * (k / 2)) ⊎ (k ≡ 2 * (k / 2) + 1)
halves k = by_rest (k % 2) refl
  where
    by_rest : (r : ℕ) → k % 2 ≡ r → (k ≡ 2 * (k / 2)) ⊎ (k ≡ 2 * (k / 2) + 1)
    by_rest zero e = inl (omega (arith, e))
    by_rest (suc zero) e = inr (omega (arith, e))
    by_rest (suc (suc r)) e = absurd (omega (arith, e))

module _ (w n x : ℕ) (whole : 2 * w * n ≡ 128) where
  wide_lane : (i : ℕ) → i < n → lane (2 * w) (in_reverse (2 * w) n x) i ≡ lane (2 * w) x (n - 1 - i)
  wide_lane i lt = lane-from_lanes (2 * w) n i (λ j. lane (2 * w) x (n - 1 - j)) whole lt (λ j q. lane_lt (2 * w) x (n - 1 - j))

  turned_lane : (i : ℕ) → i < n → lane (2 * w) (rotated (2 * w) n w (in_reverse (2 * w) n x)) i ≡ element_shifted RotateLeft (2 * w) (lane (2 * w) x (n - 1 - i)) w
  turned_lane i lt =
      lane-from_lanes (2 * w) n i (λ j. element_shifted RotateLeft (2 * w) (lane (2 * w) (in_reverse (2 * w) n x) j) w) whole lt (λ j q. exchanged_lt w _ (lane_lt (2 * w) (in_reverse (2 * w) n x) j))
      ∙ ap (λ z. element_shifted RotateLeft (2 * w) z w) (wide_lane i lt)

  few : (i : ℕ) → i < n → w * (2 * i + 2) ≤ 128
  few i lt = grind (arith, whole, lt)

  even_lane : (i : ℕ) → i < n → lane w (rotated (2 * w) n w (in_reverse (2 * w) n x)) (2 * i) ≡ lane w x (2 * n - 1 - 2 * i)
  even_lane i lt =
      let z = lane (2 * w) x (n - 1 - i) in
      let at : 2 * (n - 1 - i) + 1 ≡ 2 * n - 1 - 2 * i = omega (arith, lt) in
      lane_left w (rotated (2 * w) n w (in_reverse (2 * w) n x)) i (few i lt) ∙ ap (λ y. y / 2 ^ w) (turned_lane i lt) ∙ exchanged_left w z (lane_lt (2 * w) x (n - 1 - i)) ∙ sym (lane_right w x (n - 1 - i)) ∙ ap (lane w x) at

  odd_lane : (i : ℕ) → i < n → lane w (rotated (2 * w) n w (in_reverse (2 * w) n x)) (2 * i + 1) ≡ lane w x (2 * n - 1 - (2 * i + 1))
  odd_lane i lt =
      let z = lane (2 * w) x (n - 1 - i) in
      let at : 2 * (n - 1 - i) ≡ 2 * n - 1 - (2 * i + 1) = omega (arith, lt) in
      lane_right w (rotated (2 * w) n w (in_reverse (2 * w) n x)) i ∙ ap (λ y. y % 2 ^ w) (turned_lane i lt) ∙ exchanged_right w z (lane_lt (2 * w) x (n - 1 - i)) ∙ sym (lane_left w x (n - 1 - i) (few (n - 1 - i) (omega (arith, lt)))) ∙ ap (lane w x) at

  each_lane : (k : ℕ) → k < 2 * n → (k ≡ 2 * (k / 2)) ⊎ (k ≡ 2 * (k / 2) + 1) → lane w (rotated (2 * w) n w (in_reverse (2 * w) n x)) k ≡ lane w x (2 * n - 1 - k)
  each_lane k lt (inl e) = ap (lane w (rotated (2 * w) n w (in_reverse (2 * w) n x))) e ∙ even_lane (k / 2) (omega (arith, lt)) ∙ ap (λ j. lane w x (2 * n - 1 - j)) (sym e)
  each_lane k lt (inr e) = ap (lane w (rotated (2 * w) n w (in_reverse (2 * w) n x))) e ∙ odd_lane (k / 2) (omega (arith, lt)) ∙ ap (λ j. lane w x (2 * n - 1 - j)) (sym e)

  -- wide lanes in reverse order, each rotated by its half, are narrow lanes in reverse order
  pub reversed_halves : rotated (2 * w) n w (in_reverse (2 * w) n x) ≡ in_reverse w (2 * n) x
  reversed_halves =
      let all : w * (2 * n) ≡ 128 = grind (arith, whole) in
      let turned = rotated (2 * w) n w (in_reverse (2 * w) n x) in
      let left : turned < 2 ^ 128 = subst (λ (k : ℕ). turned < 2 ^ k) whole (build_lt (2 * w) n (λ i. element_shifted RotateLeft (2 * w) (lane (2 * w) (in_reverse (2 * w) n x) i) w) (λ j q. exchanged_lt w _ (lane_lt (2 * w) (in_reverse (2 * w) n x) j))) in
      let right : in_reverse w (2 * n) x < 2 ^ 128 = subst (λ (k : ℕ). in_reverse w (2 * n) x < 2 ^ k) all (build_lt w (2 * n) (λ i. lane w x (2 * n - 1 - i)) (λ j q. lane_lt w x (2 * n - 1 - j))) in
      same_lanes w (2 * n) turned (in_reverse w (2 * n) x) all left right (λ k lt.
      each_lane k lt (halves k) ∙ sym (lane-from_lanes w (2 * n) k (λ j. lane w x (2 * n - 1 - j)) all lt (λ j q. lane_lt w x (2 * n - 1 - j))))

-- two doublewords in reverse order, as they are chosen by their numbers
pub reversed_doublewords : (x : ℕ) → from_lanes 64 2 (chosen_doubleword 1 0 x x) ≡ in_reverse 64 2 x
unfolding from_lanes
reversed_doublewords x = refl
