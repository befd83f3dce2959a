-- The last whole region becomes older bytes: no address changes.
use Rattle.std.proofs.Common.{◌≡◌, ℕ, zero, suc, ◌+◌, ◌-◌, ◌^◌, ◌≤◌, Bool, true, false, ◌&&◌, ◌||◌, ◌==◌, if◌then◌else◌, List, [], ◌∷◌, ◌++◌, Option, Some, length, get_or, take, slice_index, refl, sym, ap, ap₂, ◌∙◌, arith, lt-ltb, true≢false}
use Rattle.std.specs.Prelude.{nat_le, nat_lt}
use Rattle.std.specs.Option.{is_some, unwrap_or}
use Rattle.std.specs.BTreeMap.{BTreeMap, get}
use Rattle.std.specs.Ordering.{nat_cmp}
use Rattle.std.proofs.lemmas.Bool.{and_parts, leb-true, eqb-true}
use Rattle.s390x_operations.specs.State.{update}
use Rattle.s390x_machine.specs.Regions.{covers, has_address, contains, held_in, byte_in, held_by, byte_by, IsFolded}
use Rattle.s390x_machine.specs.declared.flat.Region.{Region}

-- ---- the last of a list

pub last_of : (rs : List Region) (n : ℕ) (z : Region) → n + 1 ≡ length rs → rs ≡ take n rs ++ (get_or rs n z ∷ [])
last_of [] n z e = absurd (omega (arith, e))
last_of (r ∷ []) zero z e = refl
last_of (r ∷ s ∷ rs) zero z e = absurd (omega (arith, e))
last_of (r ∷ rs) (suc n) z e = ap (λ (xs : List Region). r ∷ xs) (last_of rs n z (omega (arith, e)))

or_alike : (b c d : Bool) → (b || (c || d)) ≡ ((b || c) || d)
or_alike true c d = refl
or_alike false c d = refl

or_none : (b : Bool) → (b || false) ≡ b
or_none true = refl
or_none false = refl

held_in_end : (rs : List Region) (r : Region) (a : ℕ) → held_in (rs ++ (r ∷ [])) a ≡ (held_in rs a || contains r a)
unfolding held_in
held_in_end [] r a = or_none (contains r a)
held_in_end (s ∷ rs) r a = ap (λ b. contains s a || b) (held_in_end rs r a) ∙ or_alike (contains s a) (held_in rs a) (contains r a)

first_or : (c h : Bool) (x y z : ℕ) → (if c then x else (if h then y else z)) ≡ (if c || h then (if c then x else y) else z)
first_or true h x y z = refl
first_or false h x y z = refl

-- the byte of the last region, where it has one
abbrev last_byte : Region → ℕ → ℕ
last_byte r a = if contains r a then slice_index r.bytes.items (a - r.start) else 0

byte_in_end : (rs : List Region) (r : Region) (a : ℕ) → byte_in (rs ++ (r ∷ [])) a ≡ (if held_in rs a then byte_in rs a else last_byte r a)
unfolding held_in byte_in
byte_in_end [] r a = refl
byte_in_end (s ∷ rs) r a =
    ap (λ x. if contains s a then slice_index s.bytes.items (a - s.start) else x) (byte_in_end rs r a)
    ∙ first_or (contains s a) (held_in rs a) (slice_index s.bytes.items (a - s.start)) (byte_in rs a) (last_byte r a)

-- ---- an address

held_cases : (h c : Bool) (x y : Option ℕ) (v : ℕ) → (c ≡ false → x ≡ y) → (c ≡ true → x ≡ Some v) → (h || is_some x) ≡ ((h || c) || is_some y)
held_cases true c x y v out here = refl
held_cases false true x y v out here = ap is_some (here refl)
held_cases false false x y v out here = ap is_some (out refl)

byte_cases : (h c : Bool) (b : ℕ) (x y : Option ℕ) (v : ℕ) → (c ≡ false → x ≡ y) → (c ≡ true → x ≡ Some v) →
    (if h then b else unwrap_or x 0) ≡ (if h || c then (if h then b else (if c then v else 0)) else unwrap_or y 0)
byte_cases true c b x y v out here = refl
byte_cases false true b x y v out here = ap (λ (o : Option ℕ). unwrap_or o 0) (here refl)
byte_cases false false b x y v out here = ap (λ (o : Option ℕ). unwrap_or o 0) (out refl)

pub folded_last : (rs : List Region) (r : Region) (older newer : BTreeMap ℕ ℕ) (a : ℕ) → (contains r a ≡ false → get nat_cmp newer a ≡ get nat_cmp older a) →
    (contains r a ≡ true → get nat_cmp newer a ≡ Some (slice_index r.bytes.items (a - r.start))) → IsFolded (rs ++ (r ∷ [])) older rs newer a
folded_last rs r older newer a out here =
    let x = get nat_cmp newer a in
    let y = get nat_cmp older a in
    let v = slice_index r.bytes.items (a - r.start) in
    record {
      held = held_cases (held_in rs a) (contains r a) x y v out here ∙ ap (λ b. b || is_some y) (sym (held_in_end rs r a));
      byte = byte_cases (held_in rs a) (contains r a) (byte_in rs a) x y v out here ∙ ap₂ (λ (b : Bool) (n : ℕ). if b then n else unwrap_or y 0) (sym (held_in_end rs r a)) (sym (byte_in_end rs r a));
    }

held_alike : (h c : Bool) (x y : Option ℕ) → (c ≡ false → x ≡ y) → ((h || c) || is_some x) ≡ ((h || c) || is_some y)
held_alike true c x y out = refl
held_alike false true x y out = refl
held_alike false false x y out = ap is_some (out refl)

byte_alike : (h c : Bool) (b : ℕ) (x y : Option ℕ) → (c ≡ false → x ≡ y) → (if h || c then b else unwrap_or x 0) ≡ (if h || c then b else unwrap_or y 0)
byte_alike true c b x y out = refl
byte_alike false true b x y out = refl
byte_alike false false b x y out = ap (λ (o : Option ℕ). unwrap_or o 0) (out refl)

-- only the last region's addresses may have got older bytes
pub folded_partly : (rs : List Region) (r : Region) (older newer : BTreeMap ℕ ℕ) (a : ℕ) → (contains r a ≡ false → get nat_cmp newer a ≡ get nat_cmp older a) →
    IsFolded (rs ++ (r ∷ [])) older (rs ++ (r ∷ [])) newer a
folded_partly rs r older newer a out =
    let x = get nat_cmp newer a in
    let y = get nat_cmp older a in
    let whole = byte_in (rs ++ (r ∷ [])) a in
    record {
      held = ap (λ b. b || is_some x) (held_in_end rs r a) ∙ held_alike (held_in rs a) (contains r a) x y out ∙ ap (λ b. b || is_some y) (sym (held_in_end rs r a));
      byte = ap (λ b. if b then whole else unwrap_or x 0) (held_in_end rs r a) ∙ byte_alike (held_in rs a) (contains r a) whole x y out ∙ ap (λ b. if b then whole else unwrap_or y 0) (sym (held_in_end rs r a));
    }

-- ---- one more region

pub held_first : (r : Region) (rs : List Region) (older : BTreeMap ℕ ℕ) (a : ℕ) → held_by (r ∷ rs) older a ≡ (contains r a || held_by rs older a)
unfolding held_in
held_first r rs older a = sym (or_alike (contains r a) (held_in rs a) (is_some (get nat_cmp older a)))

pub byte_first : (r : Region) (rs : List Region) (older : BTreeMap ℕ ℕ) (a : ℕ) → byte_by (r ∷ rs) older a ≡ (if contains r a then slice_index r.bytes.items (a - r.start) else byte_by rs older a)
unfolding held_in byte_in
byte_first r rs older a = sym (first_or (contains r a) (held_in rs a) (slice_index r.bytes.items (a - r.start)) (byte_in rs a) (unwrap_or (get nat_cmp older a) 0))

-- ---- a byte of a whole region is changed

replaced_cases : (same h : Bool) (n u v : ℕ) → (same ≡ true → h ≡ true) → (if h then (if same then v else n) else u) ≡ (if same then v else (if h then n else u))
replaced_cases true true n u v held = refl
replaced_cases true false n u v held = absurd (true≢false (sym (held refl)))
replaced_cases false h n u v held = refl

pub byte_replaced : (rs ss : List Region) (older : BTreeMap ℕ ℕ) (a v b : ℕ) → held_in rs a ≡ true → held_in ss b ≡ held_in rs b → byte_in ss b ≡ update (byte_in rs) a v b → byte_by ss older b ≡ update (byte_by rs older) a v b
byte_replaced rs ss older a v b here held byte =
    let u = unwrap_or (get nat_cmp older b) 0 in
    ap₂ (λ (h : Bool) (n : ℕ). if h then n else u) held byte
    ∙ replaced_cases (b == a) (held_in rs b) (byte_in rs b) u v (λ e. ap (λ x. held_in rs x) (eqb-true b a e) ∙ here)

-- ---- the bounds of a region

pub has_below : (start : ℕ) (bytes : List ℕ) (a : ℕ) (within : Bool) → covers start bytes a ≡ within → start + length bytes ≤ 2 ^ 64 → has_address start bytes a ≡ covers start bytes a
has_below start bytes a false e fits = ap (λ b. b && nat_lt a (2 ^ 64)) e ∙ sym e
has_below start bytes a true e fits =
    let parts = and_parts (nat_le start a) (nat_lt (a - start) (length bytes)) e in
    let low = leb-true start a parts.0 in
    let high = leb-true (suc (a - start)) (length bytes) parts.1 in
    ap₂ (λ x y. x && y) e (lt-ltb a (2 ^ 64) (omega arith)) ∙ sym e
