-- What a number's fields have: each digit of a part, back.
use Rattle.std.proofs.Common.{◌≡◌, ℕ, ◌+◌, ◌*◌, ◌/◌, ◌%◌, ◌^◌, ◌<◌, ◌≤◌, Bool, true, false, ◌&&◌, ◌||◌, ◌==◌, List, [], ◌∷◌, length, get_or, refl, sym, ap, subst, ◌∙◌, arith, eqb-true, if◌then◌else◌, zero-add, add-zero, inl, inr, nat_lt, eq-eqb}
use Rattle.std.proofs.Math.ListN.{get_or-eq_default}
use Rattle.std.proofs.Math.Pow.{pow_pos, mod-pow-add}
use Rattle.std.proofs.Math.Nat.{div-one, mod-eq_of_lt, mod-one, zero-div, zero-mod, zero-mul}
use Rattle.std.proofs.lemmas.Nat.{mod_below, shr_high, mod_low}
use Rattle.std.proofs.lemmas.Bool.{and_parts, or_cases, cases_lt, ltb-true, or_left, or_right, lt-ltb}
use Rattle.s390x_format.specs.declared.layouts.Part.{Part}
use Rattle.s390x_format.specs.Layout.{bits, piece, number, field, parts_of, is_whole, width_of_part, zero_bits}
use Rattle.s390x_format.proofs.Packing.{digit_lt, regroup, number_lt, piece_lt}

-- the digits of a number at the parts of slot k
unfoldable pub digits_in : ℕ → List Part → ℕ → List ℕ
digits_in k [] n = []
digits_in k (p ∷ ps) n = if p.slot == k then (n / 2 ^ bits ps % 2 ^ p.width) ∷ digits_in k ps n else digits_in k ps n

unfoldable pub join : List Part → List ℕ → ℕ
join [] ds = 0
join (p ∷ ps) [] = 0
join (p ∷ ps) (d ∷ ds) = d * 2 ^ p.low + join ps ds

unfoldable pub DigitsFit : List Part → List ℕ → Type 0
DigitsFit [] [] = Unit {0}
DigitsFit [] (d ∷ ds) = ⊥
DigitsFit (p ∷ ps) [] = ⊥
DigitsFit (p ∷ ps) (d ∷ ds) = (d < 2 ^ p.width) × DigitsFit ps ds

-- a value has these digits
unfoldable pub HasDigits : List Part → List ℕ → ℕ → Type 0
HasDigits [] [] v = Unit {0}
HasDigits [] (d ∷ ds) v = ⊥
HasDigits (p ∷ ps) [] v = ⊥
HasDigits (p ∷ ps) (d ∷ ds) v = (piece v p ≡ d) × HasDigits ps ds v

field_step : (p : Part) (ps : List Part) (n k : ℕ) → field ps n k ≡ join (parts_of k ps) (digits_in k ps n) → (b : Bool) →
    (if b then n / 2 ^ bits ps % 2 ^ p.width * 2 ^ p.low else 0) + field ps n k
    ≡ join (if b then p ∷ parts_of k ps else parts_of k ps) (if b then (n / 2 ^ bits ps % 2 ^ p.width) ∷ digits_in k ps n else digits_in k ps n)
unfolding join
field_step p ps n k ih true = ap (λ (y : ℕ). n / 2 ^ bits ps % 2 ^ p.width * 2 ^ p.low + y) ih
field_step p ps n k ih false = zero-add _ ∙ ih

pub field-join : (ps : List Part) (n k : ℕ) → field ps n k ≡ join (parts_of k ps) (digits_in k ps n)
unfolding field join parts_of digits_in
field-join [] n k = refl
field-join (p ∷ ps) n k = field_step p ps n k (field-join ps n k) (p.slot == k)

fit_step : (p : Part) (ps : List Part) (n k : ℕ) → DigitsFit (parts_of k ps) (digits_in k ps n) → (b : Bool) →
    DigitsFit (if b then p ∷ parts_of k ps else parts_of k ps) (if b then (n / 2 ^ bits ps % 2 ^ p.width) ∷ digits_in k ps n else digits_in k ps n)
unfolding DigitsFit
fit_step p ps n k ih true = (mod_below (n / 2 ^ bits ps) (2 ^ p.width) (pow_pos p.width), ih)
fit_step p ps n k ih false = ih

pub digits_fit : (ps : List Part) (n k : ℕ) → DigitsFit (parts_of k ps) (digits_in k ps n)
unfolding DigitsFit parts_of digits_in
digits_fit [] n k = tt
digits_fit (p ∷ ps) n k = fit_step p ps n k (digits_fit ps n k) (p.slot == k)

-- ---- a whole value
one_has : (l w d : ℕ) → l ≡ 0 → d < 2 ^ w → (d * 2 ^ l + 0 < 2 ^ (w + 0)) × ((d * 2 ^ l + 0) / 2 ^ l % 2 ^ w ≡ d)
one_has l w d e h =
    rw e (subst (λ (z : ℕ). d * 1 + 0 < 2 ^ z) (sym (add-zero w)) (omega arith), rw (div-one (d * 1 + 0)) (let s : d * 1 + 0 ≡ d = omega arith in rw s (mod-eq_of_lt h)))

-- the low digit a of width w, and the high digit b above it
two_have : (w u a b : ℕ) → a < 2 ^ w → b < 2 ^ u → (b * 2 ^ w + a < 2 ^ (u + w)) × ((b * 2 ^ w + a) / 2 ^ 0 % 2 ^ w ≡ a) × ((b * 2 ^ w + a) / 2 ^ w % 2 ^ u ≡ b)
two_have w u a b ha hb = (
  digit_lt u w b a hb ha,
  rw (div-one (b * 2 ^ w + a)) (mod_low b w a ha),
  ap (λ (z : ℕ). z % 2 ^ u) (shr_high b w a ha) ∙ mod-eq_of_lt hb,
)

low_has : (l m w u d e : ℕ) → l ≡ 0 → m ≡ w → d < 2 ^ w → e < 2 ^ u →
    (d * 2 ^ l + (e * 2 ^ m + 0) < 2 ^ (w + (u + 0))) × ((d * 2 ^ l + (e * 2 ^ m + 0)) / 2 ^ l % 2 ^ w ≡ d) × ((d * 2 ^ l + (e * 2 ^ m + 0)) / 2 ^ m % 2 ^ u ≡ e)
low_has l m w u d e p q hd he =
    let t = two_have w u d e hd he in
    let s : d * 2 ^ 0 + (e * 2 ^ w + 0) ≡ e * 2 ^ w + d = omega arith in
    let z : u + w ≡ w + (u + 0) = omega arith in
    rw (p, q, s, ← z) t

high_has : (l m w u d e : ℕ) → m ≡ 0 → l ≡ u → d < 2 ^ w → e < 2 ^ u →
    (d * 2 ^ l + (e * 2 ^ m + 0) < 2 ^ (w + (u + 0))) × ((d * 2 ^ l + (e * 2 ^ m + 0)) / 2 ^ l % 2 ^ w ≡ d) × ((d * 2 ^ l + (e * 2 ^ m + 0)) / 2 ^ m % 2 ^ u ≡ e)
high_has l m w u d e p q hd he =
    let t = two_have u w e d he hd in
    let s : d * 2 ^ u + (e * 2 ^ 0 + 0) ≡ d * 2 ^ u + e = omega arith in
    let z : w + u ≡ w + (u + 0) = omega arith in
    rw (p, q, s, ← z) (t.0, t.2, t.1)

pub whole_has : (qs : List Part) (ds : List ℕ) → is_whole qs ≡ true → DigitsFit qs ds → (join qs ds < 2 ^ bits qs) × HasDigits qs ds (join qs ds)
unfolding is_whole DigitsFit HasDigits join bits
whole_has [] [] w f = (omega arith, tt)
whole_has (p ∷ []) (d ∷ []) w f = let t = one_has p.low p.width d (eqb-true p.low 0 w) f.0 in (t.0, (t.1, tt))
whole_has (p ∷ []) (d ∷ e ∷ ds) w f = absurd f.1
whole_has (p ∷ q ∷ []) (d ∷ []) w f = absurd f.1
whole_has (p ∷ q ∷ []) (d ∷ e ∷ x ∷ ds) w f = absurd f.1.1
whole_has (p ∷ q ∷ []) (d ∷ e ∷ []) w f =
    elim (or_cases ((p.low == 0) && (q.low == p.width)) ((q.low == 0) && (p.low == q.width)) w) [
      | inl a ↦ let t = and_parts (p.low == 0) (q.low == p.width) a in let r = low_has p.low q.low p.width q.width d e (eqb-true _ _ t.0) (eqb-true _ _ t.1) f.0 f.1.0 in (r.0, (r.1, (r.2, tt)))
      | inr a ↦ let t = and_parts (q.low == 0) (p.low == q.width) a in let r = high_has p.low q.low p.width q.width d e (eqb-true _ _ t.0) (eqb-true _ _ t.1) f.0 f.1.0 in (r.0, (r.1, (r.2, tt)))
    ]
whole_has (p ∷ q ∷ r ∷ qs) ds w f = cc
whole_has qs ds w f = absurd f

pub field_lt : (ps : List Part) (n k : ℕ) → is_whole (parts_of k ps) ≡ true → field ps n k < 2 ^ width_of_part k ps
field_lt ps n k w = rw (field-join ps n k) (whole_has (parts_of k ps) (digits_in k ps n) w (digits_fit ps n k)).0

zero_piece : (p : Part) → piece 0 p ≡ 0
zero_piece p = rw (zero-div (2 ^ p.low), zero-mod (2 ^ p.width)) refl

here_has : (p : Part) (ps : List Part) (d : ℕ) (ds : List ℕ) (v : ℕ) (b : Bool) → b ≡ true →
    HasDigits (if b then p ∷ ps else ps) (if b then d ∷ ds else ds) v → piece v p ≡ d
unfolding HasDigits
here_has p ps d ds v true e h = h.0
here_has p ps d ds v false e h = cc

-- ---- a number is that of its fields, where its bits of no field are zero
has_tail : (p : Part) (ps : List Part) (d : ℕ) (ds : List ℕ) (v : ℕ) (b : Bool) →
    HasDigits (if b then p ∷ ps else ps) (if b then d ∷ ds else ds) v → HasDigits ps ds v
unfolding HasDigits
has_tail p ps d ds v true h = h.1
has_tail p ps d ds v false h = h

pub number_round_trip : (ps : List Part) (n : ℕ) (fs : List ℕ) → ((k : ℕ) → k < 10 → HasDigits (parts_of k ps) (digits_in k ps n) (get_or fs k 0)) →
    length fs ≡ 10 → zero_bits ps n ≡ true → number ps fs ≡ n % 2 ^ bits ps
unfolding number bits zero_bits parts_of digits_in
number_round_trip [] n fs h len z = sym (mod-one n)
number_round_trip (p ∷ ps) n fs h len z =
    let t = and_parts (nat_lt p.slot 10 || (n / 2 ^ bits ps % 2 ^ p.width == 0)) (zero_bits ps n) z in
    let tail : number ps fs ≡ n % 2 ^ bits ps =
    number_round_trip ps n fs (λ k lt. has_tail p (parts_of k ps) (n / 2 ^ bits ps % 2 ^ p.width) (digits_in k ps n) (get_or fs k 0) (p.slot == k) (h k lt)) len t.1 in
    let head : piece (get_or fs p.slot 0) p ≡ n / 2 ^ bits ps % 2 ^ p.width =
    elim (cases_lt p.slot 10) [
      | inl lt ↦ here_has p (parts_of p.slot ps) (n / 2 ^ bits ps % 2 ^ p.width) (digits_in p.slot ps n) (get_or fs p.slot 0) (p.slot == p.slot) (eq-eqb p.slot p.slot refl) (h p.slot lt)
      | inr ge ↦ elim (or_cases (nat_lt p.slot 10) (n / 2 ^ bits ps % 2 ^ p.width == 0) t.0) [
        | inl lt ↦ absurd (omega (arith, ltb-true p.slot 10 lt))
        | inr zr ↦ rw (get_or-eq_default fs 0 (subst (λ (m : ℕ). m ≤ p.slot) (sym len) ge)) (zero_piece p ∙ sym (eqb-true _ 0 zr))
      ]
    ] in
    rw (head, tail) (sym (mod-pow-add n p.width (bits ps)))

-- ---- the bits of no field are zero
pub number_zero : (ps : List Part) (h : ℕ) (fs : List ℕ) → length fs ≡ 10 → zero_bits ps (h * 2 ^ bits ps + number ps fs) ≡ true
unfolding number bits zero_bits
number_zero [] h fs len = refl
number_zero (p ∷ ps) h fs len =
    let d : ℕ = piece (get_or fs p.slot 0) p in let r : ℕ = number ps fs in let b : ℕ = bits ps in
    let e : h * 2 ^ (p.width + b) + (d * 2 ^ b + r) ≡ (h * 2 ^ p.width + d) * 2 ^ b + r = regroup h p.width b d r in
    let digit : (h * 2 ^ (p.width + b) + (d * 2 ^ b + r)) / 2 ^ b % 2 ^ p.width ≡ d =
    ap (λ (z : ℕ). z / 2 ^ b % 2 ^ p.width) e ∙ ap (λ (z : ℕ). z % 2 ^ p.width) (shr_high (h * 2 ^ p.width + d) b r (number_lt ps fs)) ∙ mod_low h p.width d (piece_lt _ p) in
    let tail : zero_bits ps (h * 2 ^ (p.width + b) + (d * 2 ^ b + r)) ≡ true = ap (λ (z : ℕ). zero_bits ps z) e ∙ number_zero ps (h * 2 ^ p.width + d) fs len in
    let head : (nat_lt p.slot 10 || (d == 0)) ≡ true =
    elim (cases_lt p.slot 10) [
      | inl lt ↦ or_left (nat_lt p.slot 10) (d == 0) (lt-ltb p.slot 10 lt)
      | inr ge ↦ or_right (nat_lt p.slot 10) (d == 0)
          (eq-eqb d 0 (ap (λ (z : ℕ). piece z p) (get_or-eq_default fs 0 (subst (λ (m : ℕ). m ≤ p.slot) (sym len) ge)) ∙ zero_piece p))
    ] in
    rw (digit, head, tail) refl

pub zero_of : (ps : List Part) (fs : List ℕ) → length fs ≡ 10 → zero_bits ps (number ps fs) ≡ true
zero_of ps fs len = ap (zero_bits ps) (sym (zero-add (number ps fs)) ∙ ap (λ (z : ℕ). z + number ps fs) (sym (zero-mul (2 ^ bits ps)))) ∙ number_zero ps 0 fs len

-- the fields of a number whose bits of no field are zero give it back
pub back : (ps : List Part) (n : ℕ) (fs : List ℕ) → ((k : ℕ) → k < 10 → is_whole (parts_of k ps) ≡ true) → ((k : ℕ) → k < 10 → get_or fs k 0 ≡ field ps n k) →
    length fs ≡ 10 → n < 2 ^ bits ps → zero_bits ps n ≡ true → number ps fs ≡ n
back ps n fs w h len lt z =
    number_round_trip ps n fs
    (λ k l. subst (HasDigits (parts_of k ps) (digits_in k ps n)) (sym (h k l ∙ field-join ps n k)) (whole_has (parts_of k ps) (digits_in k ps n) (w k l) (digits_fit ps n k)).1)
    len z ∙ mod-eq_of_lt lt
