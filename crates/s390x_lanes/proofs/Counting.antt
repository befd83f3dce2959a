-- Counts of zeros at one width and at another.
use Rattle.std.proofs.Common.{◌≡◌, ℕ, zero, suc, ◌+◌, ◌-◌, ◌*◌, ◌/◌, ◌%◌, ◌^◌, ◌<◌, ◌≤◌, refl, sym, ap, ◌∙◌, arith, inl, inr, add-one}
use lib.Count.{count_leading_zeros, count_trailing_zeros, leading_of_zero, leading_top, under}
use Rattle.std.proofs.Math.Pow.{pow-add}
use Rattle.std.proofs.lemmas.Bool.{cases_lt}
use Rattle.s390x_lanes.proofs.Powers.{pow_le}

same_top : (i j x : ℕ) → 2 ^ i ≤ x → x < 2 ^ suc i → 2 ^ j ≤ x → x < 2 ^ suc j → i ≡ j
same_top i j x a b c d = elim (cases_lt i j) [
  | inl h ↦ absurd (omega (arith, pow_le (suc i) j (omega arith)))
  | inr h ↦ elim (cases_lt j i) [
    | inl g ↦ absurd (omega (arith, pow_le (suc j) i (omega arith)))
    | inr g ↦ omega arith
  ]
]

pub leading_at : (w v x : ℕ) → w ≤ v → x < 2 ^ w → count_leading_zeros v x ≡ (v - w) + count_leading_zeros w x
leading_at w v zero h b = let e = leading_of_zero v in let f = leading_of_zero w in omega arith
leading_at w v (suc n) h b =
    let p : 0 < suc n = omega arith in
    let q : suc n < 2 ^ v = omega (arith, pow_le w v h) in
    let s = leading_top w (suc n) p b in
    let t = leading_top v (suc n) p q in
    let e : s.0 ≡ t.0 = same_top s.0 t.0 (suc n) s.2 s.3 t.2 t.3 in
    let f = s.1 in
    let g = t.1 in
    omega arith

half_of : (n w : ℕ) → n < 2 ^ suc w → n / 2 < 2 ^ w
half_of n w h = let e : 2 ^ suc w ≡ 2 ^ w * 2 = ap (λ (k : ℕ). 2 ^ k) (sym (add-one w)) ∙ pow-add 2 w 1 in omega arith

under_same : (d a b : ℕ) → (d ≡ 0 → a ≡ b) → under d a ≡ under d b
under_same zero a b h = ap suc (h refl)
under_same (suc d) a b h = refl

pub trailing_at : (w v x : ℕ) → w ≤ v → 0 < x → x < 2 ^ w → count_trailing_zeros v x ≡ count_trailing_zeros w x
unfolding count_trailing_zeros
trailing_at zero v x h p b = absurd (omega arith)
trailing_at (suc w) zero x h p b = absurd (omega arith)
trailing_at (suc w) (suc v) x h p b = under_same (x % 2) (count_trailing_zeros v (x / 2)) (count_trailing_zeros w (x / 2)) (λ e. trailing_at w v (x / 2) (omega arith) (omega arith) (half_of x w b))

pub width_lt : (w : ℕ) → w < 2 ^ w
width_lt zero = omega arith
width_lt (suc w) = let h = width_lt w in let e : 2 ^ suc w ≡ 2 ^ w * 2 = ap (λ (k : ℕ). 2 ^ k) (sym (add-one w)) ∙ pow-add 2 w 1 in omega arith
