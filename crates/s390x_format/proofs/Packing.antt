-- What a packed number has in its fields.
use Rattle.std.proofs.Common.{◌≡◌, ℕ, zero, suc, ◌+◌, ◌*◌, ◌/◌, ◌%◌, ◌^◌, ◌<◌, ◌≤◌, Bool, true, false, ◌&&◌, ◌||◌, ◌==◌, List, [], ◌∷◌, length, get_or, drop, refl, sym, ap, ap₂, subst, ◌∙◌, arith, add_assoc, eqb-true, if◌then◌else◌, zero-add, add-zero, inl, inr, drop-cons, drop_of_length-le, nat_le, add-one, leb-true}
use Rattle.std.proofs.Math.Pow.{pow_pos, pow_mono, pow-add, recompose}
use Rattle.std.proofs.Math.Nat.{add-mul, mul_assoc, le-mul_of_pos_right, div-one, zero-mul}
use Rattle.std.proofs.lemmas.Nat.{mod_below, mul-add-lt, shr_high, mod_low}
use Rattle.std.proofs.lemmas.Bool.{and_parts, or_cases, cases_eq}
use Rattle.std.proofs.Math.Nat.{mod-eq_of_lt}
use Rattle.s390x_format.specs.declared.layouts.Part.{Part}
use Rattle.s390x_format.specs.Layout.{bits, piece, number, field, parts_of, is_whole, width_of_part, is_layout, is_narrow, slots_ok}

pub piece_lt : (v : ℕ) (p : Part) → piece v p < 2 ^ p.width
piece_lt v p = mod_below (v / 2 ^ p.low) (2 ^ p.width) (pow_pos p.width)

-- a digit before a rest
pub digit_lt : (w b d r : ℕ) → d < 2 ^ w → r < 2 ^ b → d * 2 ^ b + r < 2 ^ (w + b)
digit_lt w b d r hd hr = rw (pow-add 2 w b) (grind (arith, mul-add-lt d (2 ^ b) r (2 ^ w) hd hr))

pub number_lt : (ps : List Part) (fs : List ℕ) → number ps fs < 2 ^ bits ps
unfolding number bits
number_lt [] fs = omega arith
number_lt (p ∷ ps) fs = digit_lt p.width (bits ps) (piece (get_or fs p.slot 0) p) (number ps fs) (piece_lt _ p) (number_lt ps fs)

pub regroup : (h w b d r : ℕ) → h * 2 ^ (w + b) + (d * 2 ^ b + r) ≡ (h * 2 ^ w + d) * 2 ^ b + r
regroup h w b d r = rw (pow-add 2 w b, add-mul, mul_assoc, add_assoc) refl

-- the fields' bits in slot k, each at its place
unfoldable gather : List Part → List ℕ → ℕ → ℕ
gather [] fs k = 0
gather (p ∷ ps) fs k = (if p.slot == k then piece (get_or fs p.slot 0) p * 2 ^ p.low else 0) + gather ps fs k

field-at : (ps : List Part) (h : ℕ) (fs : List ℕ) (k : ℕ) → field ps (h * 2 ^ bits ps + number ps fs) k ≡ gather ps fs k
unfolding field number bits gather
field-at [] h fs k = refl
field-at (p ∷ ps) h fs k =
    let d : ℕ = piece (get_or fs p.slot 0) p in let r : ℕ = number ps fs in let b : ℕ = bits ps in
    let hd : d < 2 ^ p.width = piece_lt _ p in let hr : r < 2 ^ b = number_lt ps fs in
    let e : h * 2 ^ (p.width + b) + (d * 2 ^ b + r) ≡ (h * 2 ^ p.width + d) * 2 ^ b + r = regroup h p.width b d r in
    ap₂ (λ (x : ℕ) (y : ℕ). (if p.slot == k then x * 2 ^ p.low else 0) + y)
    (ap (λ (z : ℕ). z / 2 ^ b % 2 ^ p.width) e ∙ ap (λ (z : ℕ). z % 2 ^ p.width) (shr_high (h * 2 ^ p.width + d) b r hr) ∙ mod_low h p.width d hd)
    (ap (λ (z : ℕ). field ps z k) e ∙ field-at ps (h * 2 ^ p.width + d) fs k)

unfoldable pieces : List Part → ℕ → ℕ
pieces [] v = 0
pieces (p ∷ ps) v = piece v p * 2 ^ p.low + pieces ps v

gather-step : (p : Part) (ps : List Part) (fs : List ℕ) (k : ℕ) → gather ps fs k ≡ pieces (parts_of k ps) (get_or fs k 0) → (b : Bool) → (p.slot == k) ≡ b → (if b then piece (get_or fs p.slot 0) p * 2 ^ p.low else 0) + gather ps fs k ≡ pieces (if b then p ∷ parts_of k ps else parts_of k ps) (get_or fs k 0)
unfolding pieces
gather-step p ps fs k ih true e = ap₂ (λ (x : ℕ) (y : ℕ). piece (get_or fs x 0) p * 2 ^ p.low + y) (eqb-true p.slot k e) ih
gather-step p ps fs k ih false e = zero-add _ ∙ ih

gather-pieces : (ps : List Part) (fs : List ℕ) (k : ℕ) → gather ps fs k ≡ pieces (parts_of k ps) (get_or fs k 0)
unfolding gather pieces parts_of
gather-pieces [] fs k = refl
gather-pieces (p ∷ ps) fs k = gather-step p ps fs k (gather-pieces ps fs k) (p.slot == k) refl

one_whole : (v l w : ℕ) → l ≡ 0 → v < 2 ^ (w + 0) → v / 2 ^ l % 2 ^ w * 2 ^ l + 0 ≡ v
one_whole v l w e h =
    let small : v < 2 ^ w = subst (λ (z : ℕ). v < 2 ^ z) (add-zero w) h in
    rw e (rw (div-one v, mod-eq_of_lt small) (omega arith))

low_first : (v l w m u : ℕ) → l ≡ 0 → m ≡ w → v < 2 ^ (w + (u + 0)) → v / 2 ^ l % 2 ^ w * 2 ^ l + (v / 2 ^ m % 2 ^ u * 2 ^ m + 0) ≡ v
low_first v l w m u e f h =
    let small : v < 2 ^ (u + w) = subst (λ (z : ℕ). v < 2 ^ z) (omega arith) h in
    let whole : (v / 2 ^ w % 2 ^ u) * 2 ^ w + v % 2 ^ w ≡ v = recompose u w small in
    rw (e, f) (rw (div-one v) (omega (arith, whole)))

low_second : (v l w m u : ℕ) → m ≡ 0 → l ≡ u → v < 2 ^ (w + (u + 0)) → v / 2 ^ l % 2 ^ w * 2 ^ l + (v / 2 ^ m % 2 ^ u * 2 ^ m + 0) ≡ v
low_second v l w m u e f h =
    let small : v < 2 ^ (w + u) = subst (λ (z : ℕ). v < 2 ^ z) (omega arith) h in
    let whole : (v / 2 ^ u % 2 ^ w) * 2 ^ u + v % 2 ^ u ≡ v = recompose w u small in
    rw (e, f) (rw (div-one v) (omega (arith, whole)))

pieces_whole : (qs : List Part) (v : ℕ) → is_whole qs ≡ true → v < 2 ^ bits qs → pieces qs v ≡ v
unfolding pieces is_whole bits
pieces_whole [] v w h = omega arith
pieces_whole (p ∷ []) v w h = one_whole v p.low p.width (eqb-true p.low 0 w) h
pieces_whole (p ∷ q ∷ []) v w h =
    elim (or_cases ((p.low == 0) && (q.low == p.width)) ((q.low == 0) && (p.low == q.width)) w) [
      | inl a ↦ let t = and_parts (p.low == 0) (q.low == p.width) a in low_first v p.low p.width q.low q.width (eqb-true _ _ t.0) (eqb-true _ _ t.1) h
      | inr a ↦ let t = and_parts (q.low == 0) (p.low == q.width) a in low_second v p.low p.width q.low q.width (eqb-true _ _ t.0) (eqb-true _ _ t.1) h
    ]
pieces_whole (p ∷ q ∷ r ∷ qs) v w h = cc

pub field-number : (ps : List Part) (fs : List ℕ) (k : ℕ) → is_whole (parts_of k ps) ≡ true → get_or fs k 0 < 2 ^ width_of_part k ps → field ps (number ps fs) k ≡ get_or fs k 0
field-number ps fs k w h =
    ap (λ (z : ℕ). field ps z k) (sym (zero-add (number ps fs)) ∙ ap (λ (z : ℕ). z + number ps fs) (sym (zero-mul (2 ^ bits ps)))) ∙ field-at ps 0 fs k ∙ gather-pieces ps fs k ∙ pieces_whole (parts_of k ps) (get_or fs k 0) w h

-- ---- what the test of a layout says
pub layout_bits : (ps : List Part) → is_layout ps ≡ true → bits ps ≤ 48
layout_bits ps h =
    let t = and_parts ((bits ps == 16) || (bits ps == 32) || (bits ps == 48)) (is_narrow ps) (and_parts _ (slots_ok 10 ps) h).0 in
    elim (or_cases ((bits ps == 16) || (bits ps == 32)) (bits ps == 48) t.0) [
      | inl a ↦ elim (or_cases (bits ps == 16) (bits ps == 32) a) [
        | inl b ↦ omega (arith, eqb-true (bits ps) 16 b)
        | inr b ↦ omega (arith, eqb-true (bits ps) 32 b)
      ]
      | inr a ↦ omega (arith, eqb-true (bits ps) 48 a)
    ]

pub layout_narrow : (ps : List Part) → is_layout ps ≡ true → is_narrow ps ≡ true
layout_narrow ps h = (and_parts ((bits ps == 16) || (bits ps == 32) || (bits ps == 48)) (is_narrow ps) (and_parts _ (slots_ok 10 ps) h).0).1

slots_at : (n k : ℕ) (ps : List Part) → slots_ok n ps ≡ true → k < n → (is_whole (parts_of k ps) ≡ true) × (width_of_part k ps ≤ 32)
unfolding slots_ok
slots_at zero k ps h lt = absurd (omega arith)
slots_at (suc n) k ps h lt =
    let t = and_parts (is_whole (parts_of n ps) && nat_le (width_of_part n ps) 32) (slots_ok n ps) h in
    let s = and_parts (is_whole (parts_of n ps)) (nat_le (width_of_part n ps) 32) t.0 in
    elim (cases_eq k n) [
      | inl e ↦ subst (λ (j : ℕ). (is_whole (parts_of j ps) ≡ true) × (width_of_part j ps ≤ 32)) (sym e) (s.0, leb-true (width_of_part n ps) 32 s.1)
      | inr ne ↦ slots_at n k ps t.1 (omega arith)
    ]

pub layout_slot : (ps : List Part) (k : ℕ) → is_layout ps ≡ true → k < 10 → (is_whole (parts_of k ps) ≡ true) × (width_of_part k ps ≤ 32)
layout_slot ps k h lt = slots_at 10 k ps (and_parts _ (slots_ok 10 ps) h).1 lt

pub narrow_at : (ps : List Part) (i : ℕ) (d : Part) → is_narrow ps ≡ true → i < length ps → ((get_or ps i d).low ≤ 31) × ((get_or ps i d).width ≤ 32)
unfolding is_narrow
narrow_at [] i d h lt = absurd (omega arith)
narrow_at (p ∷ ps) zero d h lt =
    let t = and_parts (nat_le p.low 31 && nat_le p.width 32) (is_narrow ps) h in
    let s = and_parts (nat_le p.low 31) (nat_le p.width 32) t.0 in (leb-true p.low 31 s.0, leb-true p.width 32 s.1)
narrow_at (p ∷ ps) (suc i) d h lt = narrow_at ps i d (and_parts _ (is_narrow ps) h).1 (omega arith)

-- ---- the loop of `pack`
pub pack_step : (ps : List Part) (fs : List ℕ) (i n : ℕ) (d : Part) → i < length ps →
    n * 2 ^ bits (drop i ps) + number (drop i ps) fs
    ≡ (n * 2 ^ (get_or ps i d).width + piece (get_or fs (get_or ps i d).slot 0) (get_or ps i d)) * 2 ^ bits (drop (i + 1) ps) + number (drop (i + 1) ps) fs
unfolding bits number
pack_step ps fs i n d lt =
    rw (add-one, drop-cons ps i d lt) (regroup n (get_or ps i d).width (bits (drop (suc i) ps)) (piece (get_or fs (get_or ps i d).slot 0) (get_or ps i d)) (number (drop (suc i) ps) fs))

pub head_le : (x b r n : ℕ) → x * 2 ^ b + r ≡ n → x ≤ n
head_le x b r n e = grind (arith, pow_pos b, le-mul_of_pos_right)

pub packed_lt : (ps : List Part) (fs : List ℕ) → is_layout ps ≡ true → number ps fs < 2 ^ 48
packed_lt ps fs h =
    let small : 2 ^ bits ps ≤ 2 ^ 48 = pow_mono (layout_bits ps h) in omega (arith, number_lt ps fs)

pub loop_bound : (ps : List Part) (fs : List ℕ) (i n : ℕ) (d : Part) → is_layout ps ≡ true → i < length ps →
    n * 2 ^ bits (drop i ps) + number (drop i ps) fs ≡ number ps fs →
    n * 2 ^ (get_or ps i d).width + piece (get_or fs (get_or ps i d).slot 0) (get_or ps i d) < 2 ^ 64
loop_bound ps fs i n d ok lt e =
    let le : n * 2 ^ (get_or ps i d).width + piece (get_or fs (get_or ps i d).slot 0) (get_or ps i d) ≤ number ps fs =
    head_le _ (bits (drop (i + 1) ps)) (number (drop (i + 1) ps) fs) (number ps fs) (sym (pack_step ps fs i n d lt) ∙ e) in
    let small : number ps fs < 2 ^ 48 = packed_lt ps fs ok in
    omega arith

pub pack_done : (ps : List Part) (fs : List ℕ) (i n m : ℕ) → length ps ≤ i → n * 2 ^ bits (drop i ps) + number (drop i ps) fs ≡ m → n ≡ m
unfolding bits number
pack_done ps fs i n m le e =
    let d : drop i ps ≡ [] = drop_of_length-le ps le in
    let f : n * 2 ^ bits [] + number [] fs ≡ m = subst (λ (xs : List Part). n * 2 ^ bits xs + number xs fs ≡ m) d e in omega (arith, f)
