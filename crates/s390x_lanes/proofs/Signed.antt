-- What the bits that the code computes with say of the elements' numbers.
use Rattle.std.proofs.Common.{◌≡◌, ℕ, zero, suc, ◌+◌, ◌-◌, ◌*◌, ◌/◌, ◌%◌, ◌^◌, ◌<◌, ◌≤◌, refl, sym, ap, ◌∙◌, arith, ℤ, pos, negsuc, inl, inr, ◌==◌, if◌then◌else◌}
use Rattle.std.specs.Prelude.{◌≤ℤ◌}
use Rattle.std.specs.Int.{int_div_euclid}
use Rattle.std.specs.Int.RustNames.{int_div, int_rem, unsigned_abs}
use lib.IntN.{◌*ℤ◌, ◌+ℤ◌, neg_ℤ}
use Rattle.std.proofs.Math.Nat.{mul_comm, mul-add, add-mul-mod_self_right, div-le_self, mod-eq_of_lt, mod-le}
use Rattle.std.proofs.Math.Pow.{pow-add}
use Rattle.std.proofs.lemmas.Nat.{pow_pos, shr_le}
use Rattle.std.proofs.lemmas.Int.{int_rem_euclid_is, ints}
use Rattle.std.proofs.lemmas.Bool.{cases_lt}
use Rattle.std.proofs.lemmas.Bool.Decides.{nat_tests}
use Rattle.s390x_lanes.specs.declared.operators.Signedness.TheVariants.{Unsigned, Signed}
use Rattle.s390x_lanes.specs.declared.operators.ShiftOperator.TheVariants.{ShiftRightArithmetic}
use Rattle.s390x_lanes.specs.declared.operators.Division.TheVariants.{Quotient, Remainder}
use Rattle.s390x_lanes.specs.Numbers.{element_number, wrapped_element, saturated_value}
use Rattle.s390x_lanes.specs.Encoding.{biased_element, sign_extended, negation, magnitude, rounded_mean, shifted_right, saturated_bits, quotient_bits, remainder_bits}
use Rattle.s390x_lanes.specs.Elements.{average, element_shifted, division_result, immediate}
use Rattle.s390x_lanes.proofs.Powers.{pow_step, pow_le}

-- ---- order
-- ---- an element and its number
low_number : (w x : ℕ) → x < 2 ^ (w - 1) → element_number Signed w x ≡ pos x
low_number w x h = grind (arith, nat_tests)

high_number : (w x a : ℕ) → 2 ^ (w - 1) ≤ x → suc a + x ≡ 2 ^ w → element_number Signed w x ≡ negsuc a
high_number w x a h e = grind (arith, nat_tests)

-- the element that holds an element's number is that element
pub wrapped-number : (w x : ℕ) → 0 < w → x < 2 ^ w → wrapped_element w (element_number Signed w x) ≡ x
wrapped-number w x p hx = let e = pow_step w p in grind (arith, nat_tests)

-- a number k * 2 ^ v below m
pub wrapped_below : (v k m : ℕ) (z : ℤ) → z +ℤ pos (k * 2 ^ v) ≡ pos m → wrapped_element v z ≡ m % 2 ^ v
wrapped_below v k m z e = ap unsigned_abs (int_rem_euclid_is z (pos (2 ^ v)) (2 ^ v) k m (pow_pos v) refl e)

-- ---- sign extension
number-sign_extended : (w v x : ℕ) → 0 < w → w ≤ v → x < 2 ^ w → element_number Signed v (sign_extended w v x) ≡ element_number Signed w x
number-sign_extended w v x p h hx =
    let e = pow_step w p in let f = pow_step v (omega arith) in let g = pow_le w v h in let k = pow_le (w - 1) (v - 1) (omega arith) in
    grind (arith, nat_tests)

sign_extended_lt : (w v x : ℕ) → 0 < w → w ≤ v → x < 2 ^ w → sign_extended w v x < 2 ^ v
sign_extended_lt w v x p h hx = let g = pow_le w v h in grind (arith, nat_tests)

pub widened-signed : (w v x : ℕ) → 0 < w → w ≤ v → x < 2 ^ w → sign_extended w v x ≡ wrapped_element v (element_number Signed w x)
widened-signed w v x p h hx =
    sym (wrapped-number v (sign_extended w v x) (omega arith) (sign_extended_lt w v x p h hx)) ∙ ap (wrapped_element v) (number-sign_extended w v x p h hx)

-- ---- 0 - x
pub wrapped-neg : (w q : ℕ) → q < 2 ^ w → negation w q ≡ wrapped_element w (neg_ℤ (pos q))
wrapped-neg w zero h = let e = pow_pos w in let m : 0 % 2 ^ w ≡ 0 = mod-eq_of_lt e in grind (arith, nat_tests)
wrapped-neg w (suc q) h = let m : q % 2 ^ w ≡ q = mod-eq_of_lt (omega arith) in grind (arith, nat_tests)

-- ---- absolute value
unsigned_abs-number : (w x : ℕ) → 0 < w → x < 2 ^ w → unsigned_abs (element_number Signed w x) ≡ magnitude w x
unsigned_abs-number w x p hx = let e = pow_step w p in grind (arith, nat_tests)

magnitude_lt : (w x : ℕ) → x < 2 ^ w → magnitude w x < 2 ^ w
magnitude_lt w x hx = let e = pow_pos (w - 1) in grind (arith, nat_tests)

pub magnitude_is : (w x : ℕ) → 0 < w → x < 2 ^ w → magnitude w x ≡ wrapped_element w (pos (unsigned_abs (element_number Signed w x)))
magnitude_is w x p hx = sym (mod-eq_of_lt (magnitude_lt w x hx)) ∙ ap (λ (n : ℕ). n % 2 ^ w) (sym (unsigned_abs-number w x p hx))

-- ---- averages
-- the number r whose double is s + 1, or one less than that
half_of : (r s : ℤ) → (r +ℤ r) ≤ℤ (s +ℤ pos 1) → s ≤ℤ (r +ℤ r) → int_div_euclid (s +ℤ pos 1) (pos 2) ≡ r
half_of r s h k = by_sign r (s +ℤ pos 1) h (omega (arith, ints))
  where
    by_sign : (r t : ℤ) → (r +ℤ r) ≤ℤ t → t ≤ℤ (r +ℤ r +ℤ pos 1) → int_div_euclid t (pos 2) ≡ r
    by_sign (pos r) (pos t) h k = ap pos (omega (arith, ints))
    by_sign (pos r) (negsuc t) h k = absurd (omega (arith, ints))
    by_sign (negsuc r) (pos t) h k = absurd (omega (arith, ints))
    by_sign (negsuc r) (negsuc t) h k = ap negsuc (omega (arith, ints))

mean_above : (w x y : ℕ) → 0 < w → x < 2 ^ w → y < 2 ^ w →
    let r = biased_element w (rounded_mean (biased_element w x) (biased_element w y)) in
    (element_number Signed w r +ℤ element_number Signed w r) ≤ℤ ((element_number Signed w x +ℤ element_number Signed w y) +ℤ pos 1)
mean_above w x y p hx hy = let e = pow_step w p in grind (arith, ints, nat_tests)

mean_below : (w x y : ℕ) → 0 < w → x < 2 ^ w → y < 2 ^ w →
    let r = biased_element w (rounded_mean (biased_element w x) (biased_element w y)) in
    (element_number Signed w x +ℤ element_number Signed w y) ≤ℤ (element_number Signed w r +ℤ element_number Signed w r)
mean_below w x y p hx hy = let e = pow_step w p in grind (arith, ints, nat_tests)

biased_lt : (w x : ℕ) → 0 < w → x < 2 ^ w → biased_element w x < 2 ^ w
biased_lt w x p hx = let e = pow_step w p in grind (arith, nat_tests)

mean_lt : (n x y : ℕ) → x < n → y < n → rounded_mean x y < n
mean_lt n x y h k = omega arith

pub biased-mean : (w x y : ℕ) → 0 < w → x < 2 ^ w → y < 2 ^ w → biased_element w (rounded_mean (biased_element w x) (biased_element w y)) ≡ average Signed w x y
biased-mean w x y p hx hy =
    let r : ℕ = biased_element w (rounded_mean (biased_element w x) (biased_element w y)) in
    let b : r < 2 ^ w = biased_lt w (rounded_mean (biased_element w x) (biased_element w y)) p (mean_lt (2 ^ w) (biased_element w x) (biased_element w y) (biased_lt w x p hx) (biased_lt w y p hy)) in
    sym (ap (wrapped_element w) (half_of (element_number Signed w r) (element_number Signed w x +ℤ element_number Signed w y) (mean_above w x y p hx hy) (mean_below w x y p hx hy)) ∙ wrapped-number w r p b)

-- ---- shifts
shifted_low : (w x k : ℕ) → x < 2 ^ (w - 1) → x < 2 ^ w → shifted_right w x k ≡ wrapped_element w (int_div_euclid (element_number Signed w x) (pos (2 ^ k)))
shifted_low w x k h hx =
    let b : x / 2 ^ k < 2 ^ w = omega (arith, shr_le x k) in
    rw (low_number w x h) (let s : shifted_right w x k ≡ x / 2 ^ k = grind (arith, nat_tests) in s ∙ sym (mod-eq_of_lt b))

shifted_high : (w x k a : ℕ) → 2 ^ (w - 1) ≤ x → suc a + x ≡ 2 ^ w → shifted_right w x k ≡ wrapped_element w (int_div_euclid (element_number Signed w x) (pos (2 ^ k)))
shifted_high w x k a h e =
    let b : a / 2 ^ k < 2 ^ w = omega (arith, shr_le a k) in
    let c : 2 ^ w - 1 - x ≡ a = omega arith in
    let s : shifted_right w x k ≡ 2 ^ w - 1 - (2 ^ w - 1 - x) / 2 ^ k = grind (arith, nat_tests) in
    s ∙ rw (high_number w x a h e, c) (ap (λ (n : ℕ). 2 ^ w - 1 - n) (sym (mod-eq_of_lt b)))

pub shifted_right_is : (w x k : ℕ) → x < 2 ^ w → shifted_right w x k ≡ element_shifted ShiftRightArithmetic w x k
shifted_right_is w x k hx = elim (cases_lt x (2 ^ (w - 1))) [
  | inl h ↦ shifted_low w x k h hx
  | inr h ↦ shifted_high w x k (2 ^ w - 1 - x) h (omega arith)
]

-- ---- saturation
saturated_number : (w x : ℕ) → 0 < w → x < 2 ^ (2 * w) → element_number Signed w (saturated_bits w x) ≡ saturated_value Signed w (element_number Signed (2 * w) x)
saturated_number w x p hx =
    let e = pow_step w p in let f = pow_step (2 * w) (omega arith) in let g = pow_le w (2 * w) (omega arith) in let k = pow_le w (2 * w - 1) (omega arith) in let j = pow_pos (w - 1) in
    grind (arith, nat_tests)

saturated_lt : (w x : ℕ) → 0 < w → x < 2 ^ (2 * w) → saturated_bits w x < 2 ^ w
saturated_lt w x p hx = let e = pow_step w p in let j = pow_pos (w - 1) in grind (arith, nat_tests)

pub saturated_bits_is : (w x : ℕ) → 0 < w → x < 2 ^ (2 * w) → saturated_bits w x ≡ wrapped_element w (saturated_value Signed w (element_number Signed (2 * w) x))
saturated_bits_is w x p hx = sym (wrapped-number w (saturated_bits w x) p (saturated_lt w x p hx)) ∙ ap (wrapped_element w) (saturated_number w x p hx)

-- ---- products
wrapped_neg : (v m k r : ℕ) → r + m ≡ k * 2 ^ v → wrapped_element v (neg_ℤ (pos m)) ≡ r % 2 ^ v
wrapped_neg v m k r e = wrapped_below v k r (neg_ℤ (pos m)) (omega (arith, ints))

both_negative : (A B p q : ℕ) → A * B + p * (B + q) + q * (A + p) ≡ p * q + (A + p) * (B + q)
both_negative A B p q = omega arith

both_mod : (A B p q N : ℕ) → A + p ≡ N → B + q ≡ N → A * B % N ≡ p * q % N
both_mod A B p q N e f =
    let g : A * B + (p + q) * N ≡ p * q + N * N = (let h = both_negative A B p q in let i = rw (e, f) at h in omega arith) in
    sym (add-mul-mod_self_right (A * B) (p + q) N) ∙ ap (λ (k : ℕ). k % N) g ∙ add-mul-mod_self_right (p * q) N N

low_extended : (w v x : ℕ) → x < 2 ^ (w - 1) → sign_extended w v x ≡ x
low_extended w v x h = grind (arith, nat_tests)

high_extended : (w v x : ℕ) → 2 ^ (w - 1) ≤ x → sign_extended w v x ≡ x + (2 ^ v - 2 ^ w)
high_extended w v x h = grind (arith, nat_tests)

one_negative : (w v x y b : ℕ) → w ≤ v → suc b + y ≡ 2 ^ w → x * (y + (2 ^ v - 2 ^ w)) % 2 ^ v ≡ wrapped_element v (neg_ℤ (pos (x * suc b)))
one_negative w v x y b h e =
    let g = pow_le w v h in
    let i : (y + (2 ^ v - 2 ^ w)) + suc b ≡ 2 ^ v = omega arith in
    sym (wrapped_neg v (x * suc b) x (x * (y + (2 ^ v - 2 ^ w))) (sym (mul-add x (y + (2 ^ v - 2 ^ w)) (suc b)) ∙ ap (λ (k : ℕ). x * k) i))

-- a product of extended elements is that of the numbers
pub product_is : (w v x y : ℕ) → w ≤ v → x < 2 ^ w → y < 2 ^ w → sign_extended w v x * sign_extended w v y % 2 ^ v ≡ wrapped_element v (element_number Signed w x *ℤ element_number Signed w y)
product_is w v x y h hx hy =
    let ea : suc (2 ^ w - 1 - x) + x ≡ 2 ^ w = omega arith in
    let eb : suc (2 ^ w - 1 - y) + y ≡ 2 ^ w = omega arith in
    let g = pow_le w v h in
    elim (cases_lt x (2 ^ (w - 1))) [
      | inl p ↦ elim (cases_lt y (2 ^ (w - 1))) [
        | inl q ↦ rw (low_number w x p, low_number w y q, low_extended w v x p, low_extended w v y q) refl
        | inr q ↦ rw (low_number w x p, high_number w y (2 ^ w - 1 - y) q eb, low_extended w v x p, high_extended w v y q) (one_negative w v x y (2 ^ w - 1 - y) h eb)
      ]
      | inr p ↦ elim (cases_lt y (2 ^ (w - 1))) [
        | inl q ↦
            rw (high_number w x (2 ^ w - 1 - x) p ea, low_number w y q, high_extended w v x p, low_extended w v y q, mul_comm (x + (2 ^ v - 2 ^ w)) y, mul_comm (suc (2 ^ w - 1 - x)) y)
            (one_negative w v y x (2 ^ w - 1 - x) h ea)
        | inr q ↦
            rw (high_number w x (2 ^ w - 1 - x) p ea, high_number w y (2 ^ w - 1 - y) q eb, high_extended w v x p, high_extended w v y q)
            (both_mod (x + (2 ^ v - 2 ^ w)) (y + (2 ^ v - 2 ^ w)) (suc (2 ^ w - 1 - x)) (suc (2 ^ w - 1 - y)) (2 ^ v) (omega arith) (omega arith))
      ]
    ]

-- ---- quotients and remainders
quotient_lt : (w x d : ℕ) → x < 2 ^ w → x / d < 2 ^ w
quotient_lt w x d h = omega (arith, div-le_self x d)

remainder_lt : (w x d : ℕ) → x < 2 ^ w → x % d < 2 ^ w
remainder_lt w x d h = omega (arith, mod-le x d)

pub unsigned_quotient : (w x y : ℕ) → x < 2 ^ w → 0 < y → x / y ≡ division_result Quotient Unsigned w x y
unsigned_quotient w x y h p = let m : x / y % 2 ^ w ≡ x / y = mod-eq_of_lt (quotient_lt w x y h) in grind (arith, nat_tests)

pub unsigned_remainder : (w x y : ℕ) → x < 2 ^ w → 0 < y → x % y ≡ division_result Remainder Unsigned w x y
unsigned_remainder w x y h p = let m : x % y % 2 ^ w ≡ x % y = mod-eq_of_lt (remainder_lt w x y h) in grind (arith, nat_tests)

quotient_is : (w x y : ℕ) → 0 < w → x < 2 ^ w → y < 2 ^ w → quotient_bits w x y ≡ wrapped_element w (int_div (element_number Signed w x) (element_number Signed w y))
quotient_is w x y p hx hy =
    let ea : suc (2 ^ w - 1 - x) + x ≡ 2 ^ w = omega arith in
    let eb : suc (2 ^ w - 1 - y) + y ≡ 2 ^ w = omega arith in
    let g = pow_step w p in
    let j = pow_pos (w - 1) in
    elim (cases_lt x (2 ^ (w - 1))) [
      | inl h ↦ elim (cases_lt y (2 ^ (w - 1))) [
        | inl k ↦ low_low w x y h k (quotient_lt w x y hx)
        | inr k ↦ low_high w x y (2 ^ w - 1 - y) h k eb (quotient_lt w x (suc (2 ^ w - 1 - y)) hx)
      ]
      | inr h ↦ elim (cases_lt y (2 ^ (w - 1))) [
        | inl k ↦ high_low w x y (2 ^ w - 1 - x) h k ea (quotient_lt w (suc (2 ^ w - 1 - x)) y (omega arith))
        | inr k ↦ high_high w x y (2 ^ w - 1 - x) (2 ^ w - 1 - y) h k ea eb (quotient_lt w (suc (2 ^ w - 1 - x)) (suc (2 ^ w - 1 - y)) (omega arith))
      ]
    ]
  where
    low_low : (w x y : ℕ) → x < 2 ^ (w - 1) → y < 2 ^ (w - 1) → x / y < 2 ^ w → quotient_bits w x y ≡ wrapped_element w (int_div (element_number Signed w x) (element_number Signed w y))
    low_low w x y h k b =
        let s : quotient_bits w x y ≡ x / y = grind (arith, nat_tests) in
        s ∙ rw (low_number w x h, low_number w y k) (sym (mod-eq_of_lt b))

    low_high : (w x y b : ℕ) → x < 2 ^ (w - 1) → 2 ^ (w - 1) ≤ y → suc b + y ≡ 2 ^ w → x / suc b < 2 ^ w → quotient_bits w x y ≡ wrapped_element w (int_div (element_number Signed w x) (element_number Signed w y))
    low_high w x y b h k e l =
        let m : 2 ^ w - y ≡ suc b = omega arith in
        let s : quotient_bits w x y ≡ negation w (x / (2 ^ w - y)) = grind (arith, nat_tests) in
        s ∙ rw (m, low_number w x h, high_number w y b k e) (wrapped-neg w (x / suc b) l)

    high_low : (w x y a : ℕ) → 2 ^ (w - 1) ≤ x → y < 2 ^ (w - 1) → suc a + x ≡ 2 ^ w → suc a / y < 2 ^ w → quotient_bits w x y ≡ wrapped_element w (int_div (element_number Signed w x) (element_number Signed w y))
    high_low w x y a h k e l =
        let m : 2 ^ w - x ≡ suc a = omega arith in
        let s : quotient_bits w x y ≡ negation w ((2 ^ w - x) / y) = grind (arith, nat_tests) in
        s ∙ rw (m, high_number w x a h e, low_number w y k) (wrapped-neg w (suc a / y) l)

    high_high : (w x y a b : ℕ) → 2 ^ (w - 1) ≤ x → 2 ^ (w - 1) ≤ y → suc a + x ≡ 2 ^ w → suc b + y ≡ 2 ^ w → suc a / suc b < 2 ^ w → quotient_bits w x y ≡ wrapped_element w (int_div (element_number Signed w x) (element_number Signed w y))
    high_high w x y a b h k e f l =
        let m : 2 ^ w - x ≡ suc a = omega arith in
        let n : 2 ^ w - y ≡ suc b = omega arith in
        let s : quotient_bits w x y ≡ (2 ^ w - x) / (2 ^ w - y) = grind (arith, nat_tests) in
        s ∙ rw (m, n, high_number w x a h e, high_number w y b k f) (sym (mod-eq_of_lt l))

remainder_is : (w x y : ℕ) → 0 < w → x < 2 ^ w → y < 2 ^ w → remainder_bits w x y ≡ wrapped_element w (int_rem (element_number Signed w x) (element_number Signed w y))
remainder_is w x y p hx hy =
    let ea : suc (2 ^ w - 1 - x) + x ≡ 2 ^ w = omega arith in
    let g = pow_step w p in
    let j = pow_pos (w - 1) in
    elim (cases_lt x (2 ^ (w - 1))) [
      | inl h ↦ low w x y h (unsigned_abs-number w y p hy) (remainder_lt w x (magnitude w y) hx)
      | inr h ↦ high w x y (2 ^ w - 1 - x) h ea (unsigned_abs-number w y p hy) (remainder_lt w (suc (2 ^ w - 1 - x)) (magnitude w y) (omega arith))
    ]
  where
    low : (w x y : ℕ) → x < 2 ^ (w - 1) → unsigned_abs (element_number Signed w y) ≡ magnitude w y → x % magnitude w y < 2 ^ w → remainder_bits w x y ≡ wrapped_element w (int_rem (element_number Signed w x) (element_number Signed w y))
    low w x y h d b =
        let s : remainder_bits w x y ≡ x % magnitude w y = grind (arith, nat_tests) in
        s ∙ rw (low_number w x h, d) (sym (mod-eq_of_lt b))

    high : (w x y a : ℕ) → 2 ^ (w - 1) ≤ x → suc a + x ≡ 2 ^ w → unsigned_abs (element_number Signed w y) ≡ magnitude w y → suc a % magnitude w y < 2 ^ w → remainder_bits w x y ≡ wrapped_element w (int_rem (element_number Signed w x) (element_number Signed w y))
    high w x y a h e d b =
        let m : 2 ^ w - x ≡ suc a = omega arith in
        let s : remainder_bits w x y ≡ negation w ((2 ^ w - x) % magnitude w y) = grind (arith, nat_tests) in
        s ∙ rw (m, high_number w x a h e, d) (wrapped-neg w (suc a % magnitude w y) b)

pub signed_quotient : (w x y : ℕ) → 0 < w → x < 2 ^ w → y < 2 ^ w → 0 < y → quotient_bits w x y ≡ division_result Quotient Signed w x y
signed_quotient w x y p hx hy h = quotient_is w x y p hx hy ∙ nonzero w (wrapped_element w (int_div (element_number Signed w x) (element_number Signed w y))) y h
  where
    nonzero : (w n y : ℕ) → 0 < y → n ≡ (if y == 0 then 0 else n)
    nonzero w n y h = grind (arith, nat_tests)

pub signed_remainder : (w x y : ℕ) → 0 < w → x < 2 ^ w → y < 2 ^ w → 0 < y → remainder_bits w x y ≡ division_result Remainder Signed w x y
signed_remainder w x y p hx hy h = remainder_is w x y p hx hy ∙ nonzero w (wrapped_element w (int_rem (element_number Signed w x) (element_number Signed w y))) y h
  where
    nonzero : (w n y : ℕ) → 0 < y → n ≡ (if y == 0 then 0 else n)
    nonzero w n y h = grind (arith, nat_tests)

-- ---- immediates
pub immediate_is : (w k : ℕ) → w ≤ 128 → k < 2 ^ 16 → sign_extended 16 128 k % 2 ^ w ≡ immediate w k
immediate_is w k h hk = elim (cases_lt k (2 ^ 15)) [
  | inl l ↦ rw (low_extended 16 128 k l, low_number 16 k l) refl
  | inr l ↦ sym (wrapped_below w (2 ^ (128 - w)) (sign_extended 16 128 k) (element_number Signed 16 k) (sum w k h l hk))
]
  where
    power : (w : ℕ) → w ≤ 128 → 2 ^ (128 - w) * 2 ^ w ≡ 2 ^ 128
    power w h = sym (pow-add 2 (128 - w) w) ∙ ap (λ (n : ℕ). 2 ^ n) (let e : (128 - w) + w ≡ 128 = omega arith in e)

    sum : (w k : ℕ) → w ≤ 128 → 2 ^ 15 ≤ k → k < 2 ^ 16 → element_number Signed 16 k +ℤ pos (2 ^ (128 - w) * 2 ^ w) ≡ pos (sign_extended 16 128 k)
    sum w k h l hk =
        let e : suc (2 ^ 16 - 1 - k) + k ≡ 2 ^ 16 = omega arith in
        rw (power w h, high_number 16 k (2 ^ 16 - 1 - k) l e, high_extended 16 128 k l) (omega (arith, ints))
