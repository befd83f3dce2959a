-- The loop of `unpack`.
use Rattle.std.proofs.Common.{◌≡◌, ℕ, zero, suc, ◌+◌, ◌*◌, ◌/◌, ◌%◌, ◌^◌, ◌<◌, ◌≤◌, Bool, true, false, ◌&&◌, ◌||◌, nat_lt, ◌==◌, List, [], ◌∷◌, length, get_or, drop, refl, sym, ap, subst, ◌∙◌, arith, if◌then◌else◌, drop-cons, drop_of_length-le, add-one, eq-eqb}
use Rattle.std.proofs.Math.Pow.{pow_pos, pow_mono}
use Rattle.std.proofs.lemmas.Nat.{mod_below}
use Rattle.s390x_format.specs.declared.layouts.Part.{Part}
use Rattle.s390x_format.specs.Layout.{bits, field, width_of_part, is_layout, zero_bits}
use Rattle.s390x_format.proofs.Packing.{layout_bits, layout_slot}
use Rattle.s390x_format.proofs.Digits.{field_lt}

-- what a read past the end gives
abbrev pub no_part : Part
no_part = record { slot = 0; low = 0; width = 0 }

pub bits_at : (ps : List Part) (i : ℕ) (d : Part) → i < length ps → bits (drop i ps) ≡ (get_or ps i d).width + bits (drop (i + 1) ps)
unfolding bits
bits_at ps i d lt = rw (add-one, drop-cons ps i d lt) refl

pub bits-drop : (ps : List Part) (i : ℕ) → bits (drop i ps) ≤ bits ps
unfolding bits
bits-drop [] zero = omega arith
bits-drop [] (suc i) = omega arith
bits-drop (p ∷ ps) zero = omega arith
bits-drop (p ∷ ps) (suc i) = omega (arith, bits-drop ps i)

pub rest_le : (ps : List Part) (i rest : ℕ) → is_layout ps ≡ true → rest ≡ bits (drop i ps) → rest ≤ 48
rest_le ps i rest ok e = omega (arith, bits-drop ps i, layout_bits ps ok, e)

pub field_at : (ps : List Part) (n k i : ℕ) (d : Part) → i < length ps →
    field (drop i ps) n k ≡ (if (get_or ps i d).slot == k then n / 2 ^ bits (drop (i + 1) ps) % 2 ^ (get_or ps i d).width * 2 ^ (get_or ps i d).low else 0) + field (drop (i + 1) ps) n k
unfolding field
field_at ps n k i d lt = rw (add-one, drop-cons ps i d lt) refl

pub field_done : (ps : List Part) (n k i x m : ℕ) → length ps ≤ i → x + field (drop i ps) n k ≡ m → x ≡ m
unfolding field
field_done ps n k i x m le e =
    let f : x + field [] n k ≡ m = subst (λ (xs : List Part). x + field xs n k ≡ m) (drop_of_length-le ps le) e in omega (arith, f)

pub digit_small : (m w : ℕ) → w ≤ 32 → m % 2 ^ w < 2 ^ 32
digit_small m w le = let small : 2 ^ w ≤ 2 ^ 32 = pow_mono le in omega (arith, mod_below m (2 ^ w) (pow_pos w))

if_true : (b : Bool) (x : ℕ) → b ≡ true → (if b then x else 0) ≡ x
if_true true x e = refl
if_true false x e = cc

pub sum_small : (ps : List Part) (n i x : ℕ) (d : Part) → is_layout ps ≡ true → i < length ps → (get_or ps i d).slot < 10 →
    x + field (drop i ps) n (get_or ps i d).slot ≡ field ps n (get_or ps i d).slot →
    x + n / 2 ^ bits (drop (i + 1) ps) % 2 ^ (get_or ps i d).width * 2 ^ (get_or ps i d).low < 2 ^ 32
sum_small ps n i x d ok lt s e =
    let k : ℕ = (get_or ps i d).slot in
    let w = layout_slot ps k ok s in
    let low : field ps n k < 2 ^ width_of_part k ps = field_lt ps n k w.0 in
    let small : 2 ^ width_of_part k ps ≤ 2 ^ 32 = pow_mono w.1 in
    let f : field (drop i ps) n k ≡ n / 2 ^ bits (drop (i + 1) ps) % 2 ^ (get_or ps i d).width * 2 ^ (get_or ps i d).low + field (drop (i + 1) ps) n k =
    field_at ps n k i d lt ∙ ap (λ (y : ℕ). y + field (drop (i + 1) ps) n k) (if_true (k == k) _ (eq-eqb k k refl)) in
    omega arith

pub sum_next : (ps : List Part) (n k i x y : ℕ) (d : Part) (m digit : ℕ) → i < length ps →
    digit ≡ n / 2 ^ bits (drop (i + 1) ps) % 2 ^ (get_or ps i d).width →
    y ≡ (if (get_or ps i d).slot == k then digit * 2 ^ (get_or ps i d).low else 0) + x →
    x + field (drop i ps) n k ≡ m → y + field (drop (i + 1) ps) n k ≡ m
sum_next ps n k i x y d m digit lt g e f =
    let e' : y ≡ (if (get_or ps i d).slot == k then n / 2 ^ bits (drop (i + 1) ps) % 2 ^ (get_or ps i d).width * 2 ^ (get_or ps i d).low else 0) + x = rw g at e in
    omega (arith, e', f, field_at ps n k i d lt)

-- ---- the bits of no field
zero_at : (ps : List Part) (n i : ℕ) (d : Part) → i < length ps →
    zero_bits (drop i ps) n ≡ ((nat_lt (get_or ps i d).slot 10 || (n / 2 ^ bits (drop (i + 1) ps) % 2 ^ (get_or ps i d).width == 0)) && zero_bits (drop (i + 1) ps) n)
unfolding zero_bits
zero_at ps n i d lt = rw (add-one, drop-cons ps i d lt) refl

regrouped : (a here rest : Bool) → ((here && a) && rest) ≡ (a && (here && rest))
regrouped true true rest = refl
regrouped true false rest = refl
regrouped false true rest = refl
regrouped false false rest = refl

pub zeros_next : (ps : List Part) (n i : ℕ) (d : Part) (a next m : Bool) (digit : ℕ) → i < length ps →
    digit ≡ n / 2 ^ bits (drop (i + 1) ps) % 2 ^ (get_or ps i d).width →
    next ≡ ((nat_lt (get_or ps i d).slot 10 || (digit == 0)) && a) →
    (a && zero_bits (drop i ps) n) ≡ m → (next && zero_bits (drop (i + 1) ps) n) ≡ m
zeros_next ps n i d a next m digit lt g h e =
    let h' : next ≡ ((nat_lt (get_or ps i d).slot 10 || (n / 2 ^ bits (drop (i + 1) ps) % 2 ^ (get_or ps i d).width == 0)) && a) = rw g at h in
    rw h' (regrouped a _ (zero_bits (drop (i + 1) ps) n) ∙ ap (λ (z : Bool). a && z) (sym (zero_at ps n i d lt)) ∙ e)

pub zeros_done : (ps : List Part) (n i : ℕ) (a m : Bool) → length ps ≤ i → (a && zero_bits (drop i ps) n) ≡ m → a ≡ m
unfolding zero_bits
zeros_done ps n i a m le e = sym (last a) ∙ subst (λ (xs : List Part). (a && zero_bits xs n) ≡ m) (drop_of_length-le ps le) e
  where
    last : (b : Bool) → (b && true) ≡ b
    last true = refl
    last false = refl
