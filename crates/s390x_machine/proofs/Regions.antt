-- A memory of regions: the first region that has an address is the one that counts.
use Rattle.std.proofs.Common.{◌≡◌, ◌≢◌, ℕ, zero, suc, ◌+◌, ◌-◌, ◌^◌, ◌<◌, ◌≤◌, Bool, true, false, ◌&&◌, ◌||◌, ◌==◌, if◌then◌else◌, List, [], ◌∷◌, Option, Some, None, length, get_or, slice_index, inl, inr, refl, sym, ap, ap₂, ◌∙◌, subst, arith, true≢false}
use Rattle.std.specs.Prelude.{nat_le, nat_lt, slice_set}
use Rattle.std.specs.BTreeMap.{get}
use Rattle.std.specs.Option.{is_some, unwrap_or}
use Rattle.std.specs.Ordering.{nat_cmp}
use Rattle.std.proofs.Math.Nat.{mod-eq_of_lt}
use Rattle.std.proofs.lemmas.Bool.{and_parts, leb-true, ltb-true, le-leb, lt-leb, lt-ltb, le-ltb, eqb-true, eqb-false, cases_eq, and_right}
use Rattle.std.proofs.lemmas.List.{get_or-set_same, get_or-set_other, get_or_default, length-set}
use Rattle.s390x_operations.specs.State.{update, wrapping_add64, reaches}
use Rattle.s390x_machine.specs.Regions.{covers, contains, held_in, byte_in, is_held, byte_of, ContainsAll, ContainsNone, NoneBefore, IsHolder, HoldsAll, IsInFirst}
use Rattle.s390x_machine.specs.State.{AreBytes}
use Rattle.s390x_machine.specs.declared.flat.FlatMemory.{FlatMemory}
use Rattle.s390x_machine.proofs.Reaching.{reaches_all}
use Rattle.s390x_machine.specs.declared.flat.Region.{Region}

later : (r : Region) (rs : List Region) (a i : ℕ) → NoneBefore (r ∷ rs) a (suc i) → NoneBefore rs a i
later r rs a i h k z lt = h (suc k) z (omega arith)

pub held_nowhere : (rs : List Region) (a : ℕ) → NoneBefore rs a (length rs) → held_in rs a ≡ false
unfolding held_in
held_nowhere [] a h = refl
held_nowhere (r ∷ rs) a h = ap (λ b. b || held_in rs a) (h 0 r (omega arith)) ∙ held_nowhere rs a (later r rs a (length rs) h)

pub held_here : (rs : List Region) (a i : ℕ) (z : Region) → i < length rs → NoneBefore rs a i → contains (get_or rs i z) a ≡ true → held_in rs a ≡ true
unfolding held_in
held_here [] a i z lt h here = absurd (omega arith)
held_here (r ∷ rs) a zero z lt h here = ap (λ b. b || held_in rs a) here
held_here (r ∷ rs) a (suc i) z lt h here = ap (λ b. b || held_in rs a) (h 0 z (omega arith)) ∙ held_here rs a i z (omega arith) (later r rs a i h) here

pub byte_here : (rs : List Region) (a i : ℕ) (z : Region) → i < length rs → NoneBefore rs a i → contains (get_or rs i z) a ≡ true → byte_in rs a ≡ slice_index (get_or rs i z).bytes.items (a - (get_or rs i z).start)
unfolding byte_in
byte_here [] a i z lt h here = absurd (omega arith)
byte_here (r ∷ rs) a zero z lt h here = ap (λ b. if b then slice_index r.bytes.items (a - r.start) else byte_in rs a) here
byte_here (r ∷ rs) a (suc i) z lt h here = ap (λ b. if b then slice_index r.bytes.items (a - r.start) else byte_in rs a) (h 0 z (omega arith)) ∙ byte_here rs a i z (omega arith) (later r rs a i h) here

-- the address lies in the region
covered : (r : Region) (a : ℕ) → contains r a ≡ true → covers r.start r.bytes.items a ≡ true
covered r a here = (and_parts (covers r.start r.bytes.items a) (nat_lt a (2 ^ 64)) here).0

pub inside : (r : Region) (a : ℕ) → contains r a ≡ true → a - r.start < length r.bytes.items
inside r a here = leb-true (suc (a - r.start)) (length r.bytes.items) (and_parts (nat_le r.start a) (nat_lt (a - r.start) (length r.bytes.items)) (covered r a here)).1

pub some_held : (rs : List Region) (a i : ℕ) → IsHolder rs a i → held_in rs a ≡ true
some_held [] a i h = absurd (omega (arith, h.0))
some_held (r ∷ rs) a i h = held_here (r ∷ rs) a i r h.0 h.2 (h.1 r)

-- ---- a byte is changed

-- the region, with a byte changed
pub record IsChanged (r new : Region) (a v : ℕ) : Type 0 where
  pub start : new.start ≡ r.start
  pub bytes : new.bytes.items ≡ slice_set r.bytes.items (a - r.start) v

same_addresses : (r new : Region) (a v b : ℕ) → IsChanged r new a v → contains new b ≡ contains r b
same_addresses r new a v b c =
    let long : length new.bytes.items ≡ length r.bytes.items = ap (λ (bs : List ℕ). length bs) c.bytes ∙ length-set r.bytes.items (a - r.start) v in
    ap (λ s. (nat_le s b && nat_lt (b - s) (length new.bytes.items)) && nat_lt b (2 ^ 64)) c.start ∙ ap (λ n. (nat_le r.start b && nat_lt (b - r.start) n) && nat_lt b (2 ^ 64)) long

pub held_after : (rs : List Region) (i a v : ℕ) (z new : Region) (b : ℕ) → IsChanged (get_or rs i z) new a v → i < length rs → held_in (slice_set rs i new) b ≡ held_in rs b
unfolding held_in
held_after [] i a v z new b c lt = absurd (omega arith)
held_after (r ∷ rs) zero a v z new b c lt = ap (λ x. x || held_in rs b) (same_addresses r new a v b c)
held_after (r ∷ rs) (suc i) a v z new b c lt = ap (λ x. contains r b || x) (held_after rs i a v z new b c (omega arith))

-- the byte that is changed, in its region
byte_changed : (r new : Region) (a v b : ℕ) → IsChanged r new a v → contains r a ≡ true → b ≡ a → slice_index new.bytes.items (b - new.start) ≡ v
byte_changed r new a v b c here e =
    ap (λ n. slice_index new.bytes.items (n - new.start)) e
    ∙ ap (λ s. slice_index new.bytes.items (a - s)) c.start
    ∙ ap (λ (bs : List ℕ). slice_index bs (a - r.start)) c.bytes
    ∙ get_or-set_same r.bytes.items (a - r.start) v 0 (inside r a here)

-- another one in it
byte_kept : (r new : Region) (a v b : ℕ) → IsChanged r new a v → contains r a ≡ true → contains r b ≡ true → b ≢ a → slice_index new.bytes.items (b - new.start) ≡ slice_index r.bytes.items (b - r.start)
byte_kept r new a v b c here there ne =
    let low = leb-true r.start a (and_parts (nat_le r.start a) (nat_lt (a - r.start) (length r.bytes.items)) (covered r a here)).0 in
    let low_too = leb-true r.start b (and_parts (nat_le r.start b) (nat_lt (b - r.start) (length r.bytes.items)) (covered r b there)).0 in
    ap (λ s. slice_index new.bytes.items (b - s)) c.start
    ∙ ap (λ (bs : List ℕ). slice_index bs (b - r.start)) c.bytes
    ∙ get_or-set_other r.bytes.items (a - r.start) (b - r.start) v 0 (λ e. ne (omega (arith, e, low, low_too)))

first_after : (r new : Region) (rs : List Region) (a v b : ℕ) → IsChanged r new a v → contains r a ≡ true → (same : Bool) → (b == a) ≡ same → (in_region : Bool) → contains r b ≡ in_region →
    (if in_region then slice_index new.bytes.items (b - new.start) else byte_in rs b) ≡ (if same then v else (if in_region then slice_index r.bytes.items (b - r.start) else byte_in rs b))
first_after r new rs a v b c here true e true there = byte_changed r new a v b c here (eqb-true b a e)
first_after r new rs a v b c here true e false there = absurd (true≢false (sym here ∙ ap (λ n. contains r n) (sym (eqb-true b a e)) ∙ there))
first_after r new rs a v b c here false e true there = byte_kept r new a v b c here there (eqb-false b a e)
first_after r new rs a v b c here false e false there = refl

rest_after : (r : Region) (rs ss : List Region) (a v b : ℕ) → contains r a ≡ false → byte_in ss b ≡ update (byte_in rs) a v b → (same : Bool) → (b == a) ≡ same → (in_region : Bool) → contains r b ≡ in_region →
    (if in_region then slice_index r.bytes.items (b - r.start) else byte_in ss b) ≡ (if same then v else (if in_region then slice_index r.bytes.items (b - r.start) else byte_in rs b))
rest_after r rs ss a v b out h true e true there = absurd (true≢false (sym there ∙ ap (λ n. contains r n) (eqb-true b a e) ∙ out))
rest_after r rs ss a v b out h true e false there = h ∙ ap (λ x. if x then v else byte_in rs b) e
rest_after r rs ss a v b out h false e true there = refl
rest_after r rs ss a v b out h false e false there = h ∙ ap (λ x. if x then v else byte_in rs b) e

pub byte_after : (rs : List Region) (i a v : ℕ) (z new : Region) (b : ℕ) → IsChanged (get_or rs i z) new a v → i < length rs → NoneBefore rs a i → contains (get_or rs i z) a ≡ true → byte_in (slice_set rs i new) b ≡ update (byte_in rs) a v b
unfolding byte_in
byte_after [] i a v z new b c lt h here = absurd (omega arith)
byte_after (r ∷ rs) zero a v z new b c lt h here =
    ap (λ x. if x then slice_index new.bytes.items (b - new.start) else byte_in rs b) (same_addresses r new a v b c) ∙ first_after r new rs a v b c here (b == a) refl (contains r b) refl
byte_after (r ∷ rs) (suc i) a v z new b c lt h here =
    rest_after r rs (slice_set rs i new) a v b (h 0 z (omega arith)) (byte_after rs i a v z new b c (omega arith) (later r rs a i h) here) (b == a) refl (contains r b) refl

-- the region that is the first to have an address stays so
pub holder_after : (rs : List Region) (i a v : ℕ) (z new : Region) → IsChanged (get_or rs i z) new a v → i < length rs → (b k : ℕ) → IsHolder rs b k → IsHolder (slice_set rs i new) b k
holder_after rs i a v z new c lt b k h = (subst (λ (n : ℕ). k < n) (sym (length-set rs i new)) h.0, (λ y. same k y ∙ h.1 y), (λ j y less. same j y ∙ h.2 j y less))
  where
    here : (j : ℕ) (y : Region) → j ≡ i → contains (get_or (slice_set rs i new) j y) b ≡ contains (get_or rs j y) b
    here j y e =
        ap (λ n. contains (get_or (slice_set rs i new) n y) b) e
        ∙ ap (λ (r : Region). contains r b) (get_or-set_same rs i new y lt)
        ∙ same_addresses (get_or rs i z) new a v b c
        ∙ ap (λ (r : Region). contains r b) (get_or_default rs i z y lt)
        ∙ sym (ap (λ n. contains (get_or rs n y) b) e)

    same : (j : ℕ) (y : Region) → contains (get_or (slice_set rs i new) j y) b ≡ contains (get_or rs j y) b
    same j y = elim (cases_eq j i) [ inl e ↦ here j y e | inr ne ↦ ap (λ (r : Region). contains r b) (get_or-set_other rs i j new y ne) ]

pub still_holds : (region : Option ℕ) (rs ss : List Region) (a n : ℕ) → ((b k : ℕ) → IsHolder rs b k → IsHolder ss b k) → HoldsAll region rs a n → HoldsAll region ss a n
still_holds None rs ss a n stays h j lt = tt
still_holds (Some i) rs ss a n stays h j lt = stays (wrapping_add64 a j) i (h j lt)

-- ---- a region is added

pub none_held : (a : ℕ) → held_in [] a ≡ false
unfolding held_in
none_held a = refl

-- ---- some bytes of one region

pub contained : (r : Region) (a n : ℕ) → r.start ≤ a → n ≤ length r.bytes.items → a - r.start ≤ length r.bytes.items - n → a + n < 2 ^ 64 → ContainsAll r a n
contained r a n low few end small i lt =
    let from_start : nat_le r.start (a + i) ≡ true = le-leb r.start (a + i) (omega arith) in
    let to_end : nat_lt (a + i - r.start) (length r.bytes.items) ≡ true = lt-ltb (a + i - r.start) (length r.bytes.items) (omega arith) in
    let top : nat_lt (a + i) (2 ^ 64) ≡ true = lt-ltb (a + i) (2 ^ 64) (omega arith) in
    ap₂ (λ x y. x && y) (ap₂ (λ x y. x && y) from_start to_end) top

below_top : (r : Region) (a : ℕ) → contains r a ≡ true → a < 2 ^ 64
below_top r a here = ltb-true a (2 ^ 64) (and_parts (covers r.start r.bytes.items a) (nat_lt a (2 ^ 64)) here).1

pub apart_below : (r : Region) (a n : ℕ) → a < r.start → n ≤ r.start - a → ContainsNone r a n
apart_below r a n low few i lt =
    let out : nat_le r.start (a + i) ≡ false = lt-leb r.start (a + i) (omega arith) in
    ap (λ x. (x && nat_lt (a + i - r.start) (length r.bytes.items)) && nat_lt (a + i) (2 ^ 64)) out

pub apart_above : (r : Region) (a n : ℕ) → r.start ≤ a → length r.bytes.items ≤ a - r.start → ContainsNone r a n
apart_above r a n high past i lt =
    let out : nat_lt (a + i - r.start) (length r.bytes.items) ≡ false = le-ltb (a + i - r.start) (length r.bytes.items) (omega arith) in
    ap (λ x. (nat_le r.start (a + i) && x) && nat_lt (a + i) (2 ^ 64)) out ∙ ap (λ x. x && nat_lt (a + i) (2 ^ 64)) (and_right (nat_le r.start (a + i)) false refl)

pub each_held : (rs : List Region) (a n i : ℕ) → i < length rs → ((z : Region) → ContainsAll (get_or rs i z) a n) → ((k : ℕ) → k < i → (z : Region) → ContainsNone (get_or rs k z) a n) → HoldsAll (Some i) rs a n
each_held [] a n i lt all none j less = absurd (omega (arith, lt))
each_held (r ∷ rs) a n i lt all none j less =
    let place : wrapping_add64 a j ≡ a + j = mod-eq_of_lt (below_top (get_or (r ∷ rs) i r) (a + j) (all r j less)) in
    subst (λ (b : ℕ). IsHolder (r ∷ rs) b i) (sym place) (lt, (λ z. all z j less), (λ k z before. none k before z j less))

-- of sixteen addresses the first and the last eight
pub holds_low : (rs : List Region) (a i : ℕ) → HoldsAll (Some i) rs a 16 → HoldsAll (Some i) rs a 8
holds_low rs a i h k lt = h k (omega arith)

pub holds_high : (rs : List Region) (a i : ℕ) → HoldsAll (Some i) rs a 16 → HoldsAll (Some i) rs (wrapping_add64 a 8) 8
holds_high rs a i h k lt =
    let there : wrapping_add64 a (8 + k) ≡ wrapping_add64 (wrapping_add64 a 8) k = omega arith in
    subst (λ (b : ℕ). IsHolder rs b i) there (h (8 + k) (omega arith))

pub all_held : (m : FlatMemory) (a n i : ℕ) → HoldsAll (Some i) m.regions.items a n → reaches (is_held m) a n ≡ true
all_held m a n i h =
    reaches_all (is_held m) a n (λ j lt. ap (λ (b : Bool). b || is_some (get nat_cmp m.older (wrapping_add64 a j))) (some_held m.regions.items (wrapping_add64 a j) i (h j lt)))

-- ---- six bytes of the region that was added last

no_region_before : (rs : List Region) (a : ℕ) → NoneBefore rs a 0
no_region_before rs a k z lt = absurd (omega arith)

pub first_bytes : (m : FlatMemory) (a n : ℕ) (z : Region) (bytes : List ℕ) → n ≤ 6 → IsInFirst m a 6 → length bytes ≡ 6 →
    ((i : ℕ) → i < 6 → slice_index bytes i ≡ slice_index (get_or m.regions.items 0 z).bytes.items (a + i - (get_or m.regions.items 0 z).start)) → AreBytes (is_held m) (byte_of m) a n bytes
first_bytes m a n z bytes few h six e = record {
  reached = reaches_all (is_held m) a n (λ i lt. let less : i < 6 = omega arith in ap (λ k. is_held m k) (place i less) ∙ held i less);
  six = six;
  bytes_are = λ i lt. let less : i < 6 = omega arith in e i less ∙ sym (byte i less) ∙ ap (λ k. byte_of m k) (sym (place i less));
}
  where
    place : (i : ℕ) → i < 6 → wrapping_add64 a i ≡ a + i
    place i lt = mod-eq_of_lt (below_top (get_or m.regions.items 0 z) (a + i) (h.1 z i lt))

    in_regions : (i : ℕ) → i < 6 → held_in m.regions.items (a + i) ≡ true
    in_regions i lt = held_here m.regions.items (a + i) 0 z h.0 (no_region_before m.regions.items (a + i)) (h.1 z i lt)

    held : (i : ℕ) → i < 6 → is_held m (a + i) ≡ true
    held i lt = ap (λ (b : Bool). b || is_some (get nat_cmp m.older (a + i))) (in_regions i lt)

    byte : (i : ℕ) → i < 6 → byte_of m (a + i) ≡ slice_index (get_or m.regions.items 0 z).bytes.items (a + i - (get_or m.regions.items 0 z).start)
    byte i lt =
        ap (λ (b : Bool). if b then byte_in m.regions.items (a + i) else unwrap_or (get nat_cmp m.older (a + i)) 0) (in_regions i lt)
        ∙ byte_here m.regions.items (a + i) 0 z h.0 (no_region_before m.regions.items (a + i)) (h.1 z i lt)
