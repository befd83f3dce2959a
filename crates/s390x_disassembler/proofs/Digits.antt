-- The digits of a number.
use Rattle.std.proofs.Common.{◌≡◌, ℕ, zero, suc, ◌-◌, ◌/◌, ◌%◌, ◌<◌, ◌≤◌, Bool, true, false, if◌then◌else◌, List, [], ◌∷◌, length, take, drop, refl, sym, ap, ◌∙◌, arith}
use Rattle.std.specs.Prelude.{ℤ, pos, negsuc, unsigned_abs, slice_set}
use Rattle.std.specs.Fmt.{decimal, digit_glyph, digits, digits_onto, signed_decimal}
use Rattle.std.proofs.Math.Nat.{mod-eq_of_lt}
use native.Mathlib.Nat.{div-lt_iff_lt-mul}
use lib.ListN.{length-drop, length-set}
use lib.Signed.{lt_z}
use Rattle.std.proofs.lemmas.Bool.{eq-eqb, ltb-true}
use Rattle.s390x_disassembler.proofs.Fitting.{whole}

-- a number below the base divided by it
none_left : (n base : ℕ) → n < base → n / base ≡ 0
none_left n base small =
    let some : 0 < base = omega arith in
    let one : n / base < 1 = (div-lt_iff_lt-mul some).1 (omega arith) in omega arith

pub digits_onto_nothing : (base n : ℕ) → digits_onto 64 base false n [] ≡ digits base false n
unfolding digits
digits_onto_nothing base n = refl

-- the first digit
first_digit : (base n k : ℕ) (acc : List ℕ) → n / base ≡ 0 → digits_onto (suc k) base false n acc ≡ digit_glyph false (n % base) ∷ acc
first_digit base n k acc e =
    ap (λ (b : Bool). if b then digit_glyph false (n % base) ∷ acc else digits_onto k base false (n / base) (digit_glyph false (n % base) ∷ acc)) (eq-eqb (n / base) 0 e)

drop_set : (out : List ℕ) (i x : ℕ) → i < length out → drop i (slice_set out i x) ≡ x ∷ drop (suc i) out
drop_set [] i x lt = absurd (omega arith)
drop_set (y ∷ ys) zero x lt = refl
drop_set (y ∷ ys) (suc i) x lt = drop_set ys i x (omega arith)

-- the first digit is put before the others
pub finished : (base n rest start g : ℕ) (buffer : List ℕ) → rest < base → 0 < start → start ≤ length buffer → g ≡ digit_glyph false rest → digits_onto start base false rest (drop start buffer) ≡ digits base false n → drop (start - 1) (slice_set buffer (start - 1) g) ≡ digits base false n
finished base n rest zero g buffer small some inside glyph h = absurd (omega arith)
finished base n rest (suc k) g buffer small some inside glyph h =
    ap (λ (m : ℕ). drop m (slice_set buffer m g)) {x = suc k - 1} {y = k} (omega arith)
    ∙ drop_set buffer k g (omega arith)
    ∙ ap (λ d. d ∷ drop (suc k) buffer) glyph
    ∙ ap (λ d. digit_glyph false d ∷ drop (suc k) buffer) (sym (mod-eq_of_lt small))
    ∙ sym (first_digit base rest k (drop (suc k) buffer) (none_left rest base small))
    ∙ h

-- what stands from a place of the buffer on
pub all_behind : (buffer : List ℕ) (k g : ℕ) → length buffer ≡ 64 → take (64 - k) (drop k (slice_set buffer k g)) ≡ drop k (slice_set buffer k g)
all_behind buffer k g long = whole (64 - k) (drop k (slice_set buffer k g)) (omega (arith, length-drop {A = ℕ}, length-set buffer k g, long))

-- a number below zero
pub negative : (z : ℤ) (n : ℕ) → lt_z z (pos 0) ≡ true → n ≡ unsigned_abs z → 45 ∷ decimal n ≡ signed_decimal z
negative (pos m) n below e = absurd (omega (arith, ltb-true m 0 below))
negative (negsuc m) n below e = ap (λ k. 45 ∷ decimal k) e
