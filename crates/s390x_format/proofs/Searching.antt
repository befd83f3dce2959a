-- The search for a row, at its place and by halving.
use Rattle.std.proofs.Common.{◌≡◌, ℕ, zero, suc, ◌+◌, ◌-◌, ◌*◌, ◌^◌, ◌<◌, ◌≤◌, Bool, true, false, ◌&&◌, if◌then◌else◌, List, [], ◌∷◌, length, get_or, refl, ap, subst, ◌∙◌, arith, inl, inr, leb-true, eqb-true, nat_le, nat_lt, ◌==◌}
use Rattle.std.proofs.Math.Pow.{pow-add}
use Rattle.std.proofs.Math.Nat.{mul_assoc}
use Rattle.std.proofs.lemmas.Nat.{mul-le}
use Rattle.std.proofs.lemmas.Bool.{and_parts, cases_order, cases_Bool, cases_lt, eqb-false, ltb-true}
use Rattle.s390x_format.specs.declared.row.MachineRow.{MachineRow}
use Rattle.s390x_format.specs.declared.index.FirstByte.{FirstByte}
use Rattle.s390x_format.specs.Formats.{place_of}
use Rattle.s390x_format.specs.declared.index.RestPlace.{RestPlace}
use Rattle.s390x_format.specs.declared.index.RestPlace.TheVariants.{Nowhere, LowHalf, SecondByte, LastByte}
use Rattle.s390x_format.specs.Rows.{rises, first_byte_of, rows_with}
use Rattle.s390x_format.specs.Reading.{no_row}
use Rattle.s390x_format.specs.Index.{no_first_byte, places_agree, are_indexed, are_tight, is_index, rest_of, place_in, are_placed, has_room}
use Rattle.s390x_format.proofs.Fetching.{rises_lt}

agreed : (p q : RestPlace) → places_agree p q ≡ true → p ≡ q
agreed Nowhere Nowhere h = refl
agreed LowHalf LowHalf h = refl
agreed SecondByte SecondByte h = refl
agreed LastByte LastByte h = refl
agreed p q h = cc

-- the part of a row's first byte has the row and tells where its opcode goes on
record Indexed (p : FirstByte) (r : MachineRow) (i : ℕ) : Type 0 where
  rest : p.rest ≡ place_of r.format
  start : p.start ≤ i
  end : i < p.end

indexed_from : (i0 : ℕ) (rs : List MachineRow) (ps : List FirstByte) (i : ℕ) → are_indexed i0 rs ps ≡ true → i < length rs →
    Indexed (get_or ps (first_byte_of (get_or rs i no_row)) no_first_byte) (get_or rs i no_row) (i0 + i)
unfolding are_indexed
indexed_from i0 [] ps i h lt = absurd (omega arith)
indexed_from i0 (r ∷ rs) ps zero h lt =
    let p : FirstByte = get_or ps (first_byte_of r) no_first_byte in
    let t = and_parts (places_agree p.rest (place_of r.format) && nat_le p.start i0 && nat_lt i0 p.end) (are_indexed (i0 + 1) rs ps) h in
    let s = and_parts (places_agree p.rest (place_of r.format) && nat_le p.start i0) (nat_lt i0 p.end) t.0 in
    let u = and_parts (places_agree p.rest (place_of r.format)) (nat_le p.start i0) s.0 in
    let a : p.start ≤ i0 = leb-true p.start i0 u.1 in
    let b : i0 < p.end = ltb-true i0 p.end s.1 in
    record { rest = agreed p.rest (place_of r.format) u.0; start = omega arith; end = omega arith }
indexed_from i0 (r ∷ rs) ps (suc i) h lt =
    let t = indexed_from (i0 + 1) rs ps i (and_parts _ (are_indexed (i0 + 1) rs ps) h).1 (omega arith) in
    record { rest = t.rest; start = omega (arith, t.start); end = omega (arith, t.end) }

pub indexed_at : (rs : List MachineRow) (ps : List FirstByte) (i first : ℕ) → is_index rs ps ≡ true → i < length rs → first_byte_of (get_or rs i no_row) ≡ first →
    ((get_or ps first no_first_byte).start ≤ i) × (i < (get_or ps first no_first_byte).end)
indexed_at rs ps i first h lt e =
    let t = indexed_from 0 rs ps i (and_parts (are_indexed 0 rs ps) (are_tight 0 ps rs) h).0 lt in
    subst (λ (b : ℕ). ((get_or ps b no_first_byte).start ≤ i) × (i < (get_or ps b no_first_byte).end)) e (omega (arith, t.start), omega (arith, t.end))

pub placed_at : (rs : List MachineRow) (ps : List FirstByte) (i first : ℕ) → is_index rs ps ≡ true → i < length rs → first_byte_of (get_or rs i no_row) ≡ first →
    (get_or ps first no_first_byte).rest ≡ place_of (get_or rs i no_row).format
placed_at rs ps i first h lt e =
    let t = indexed_from 0 rs ps i (and_parts (are_indexed 0 rs ps) (are_tight 0 ps rs) h).0 lt in
    subst (λ (b : ℕ). (get_or ps b no_first_byte).rest ≡ place_of (get_or rs i no_row).format) e t.rest

-- a part ends within the rows, and has no more than have its first byte
pub record Tight (p : FirstByte) (rs : List MachineRow) (b : ℕ) : Type 0 where
  pub end : p.end ≤ length rs
  pub order : p.start ≤ p.end
  pub few : p.end - p.start ≤ rows_with b rs

tight_from : (b : ℕ) (ps : List FirstByte) (rs : List MachineRow) (i : ℕ) → are_tight b ps rs ≡ true → Tight (get_or ps i no_first_byte) rs (b + i)
unfolding are_tight
tight_from b [] rs i h = record { end = omega arith; order = omega arith; few = omega arith }
tight_from b (p ∷ ps) rs zero h =
    let t = and_parts (nat_le p.end (length rs) && nat_le p.start p.end && nat_le (p.end - p.start) (rows_with b rs)) (are_tight (b + 1) ps rs) h in
    let s = and_parts (nat_le p.end (length rs) && nat_le p.start p.end) (nat_le (p.end - p.start) (rows_with b rs)) t.0 in
    let u = and_parts (nat_le p.end (length rs)) (nat_le p.start p.end) s.0 in
    let e : b ≡ b + 0 = omega arith in
    record { end = leb-true p.end (length rs) u.0; order = leb-true p.start p.end u.1; few = subst (λ (k : ℕ). p.end - p.start ≤ rows_with k rs) e (leb-true (p.end - p.start) (rows_with b rs) s.1) }
tight_from b (p ∷ ps) rs (suc i) h =
    let e : b + 1 + i ≡ b + suc i = omega arith in
    subst (λ (k : ℕ). Tight (get_or ps i no_first_byte) rs k) e (tight_from (b + 1) ps rs i (and_parts _ (are_tight (b + 1) ps rs) h).1)

pub span_ends : (rs : List MachineRow) (ps : List FirstByte) (i : ℕ) → is_index rs ps ≡ true → Tight (get_or ps i no_first_byte) rs i
span_ends rs ps i h =
    let e : 0 + i ≡ i = omega arith in
    subst (λ (k : ℕ). Tight (get_or ps i no_first_byte) rs k) e (tight_from 0 ps rs i (and_parts (are_indexed 0 rs ps) (are_tight 0 ps rs) h).1)

-- ---- the rows of a part

-- a place of a part, other than j
record Within (start end j p : ℕ) : Type 0 where
  low : start ≤ p
  high : p < end
  other : p ≡ j → ⊥

within_next : (start end j i0 i : ℕ) → Within start end j (i0 + suc i) → Within start end j (i0 + 1 + i)
within_next start end j i0 i w = record { low = omega (arith, w.low); high = omega (arith, w.high); other = λ e. w.other (omega (arith, e)) }

counted : (t : Bool) (n m : ℕ) → (t ≡ true → n + 1 ≤ m) → (t ≡ false → n ≤ m) → (if t then 1 else 0) + n ≤ m
counted true n m y o = let h = y refl in omega (arith, h)
counted false n m y o = let h = o refl in omega (arith, h)

less_one : (n m : ℕ) → n ≤ m - 1 → 1 ≤ m → n + 1 ≤ m
less_one n m h one = omega (arith, h, one)

-- from i0 on no more rows have a first byte than there are places for them
few_below : (b start end j i0 : ℕ) (rs : List MachineRow) → ((i : ℕ) → i < length rs → first_byte_of (get_or rs i no_row) ≡ b → Within start end j (i0 + i)) → rows_with b rs ≤ end - i0
unfolding rows_with
few_below b start end j i0 [] h = omega arith
few_below b start end j i0 (r ∷ rs) h =
    let later : rows_with b rs ≤ end - (i0 + 1) = few_below b start end j (i0 + 1) rs (λ i lt e. within_next start end j i0 i (h (suc i) (omega arith) e)) in
    counted (first_byte_of r == b) (rows_with b rs) (end - i0)
    (λ same. let w : Within start end j (i0 + 0) = h zero (omega arith) (eqb-true _ _ same) in omega (arith, w.high, later))
    (λ differs. omega (arith, later))

-- and fewer, where j is yet to come
few_around : (b start end j i0 : ℕ) (rs : List MachineRow) → i0 ≤ j → j < end → ((i : ℕ) → i < length rs → first_byte_of (get_or rs i no_row) ≡ b → Within start end j (i0 + i)) → rows_with b rs + 1 ≤ end - i0
unfolding rows_with
few_around b start end j i0 [] le lt h = omega arith
few_around b start end j i0 (r ∷ rs) le lt h =
    elim (cases_lt i0 j) [
      | inl less ↦
          let later : rows_with b rs + 1 ≤ end - (i0 + 1) = few_around b start end j (i0 + 1) rs (omega (arith, less)) lt (λ i l e. within_next start end j i0 i (h (suc i) (omega arith) e)) in
          let whole : rows_with b (r ∷ rs) ≤ end - i0 - 1 =
          counted (first_byte_of r == b) (rows_with b rs) (end - i0 - 1) (λ same. omega (arith, later)) (λ differs. omega (arith, later)) in
          less_one (rows_with b (r ∷ rs)) (end - i0) whole (omega (arith, le, lt))
      | inr here ↦
          let later : rows_with b rs ≤ end - (i0 + 1) = few_below b start end j (i0 + 1) rs (λ i l e. within_next start end j i0 i (h (suc i) (omega arith) e)) in
          let whole : rows_with b (r ∷ rs) ≤ end - i0 - 1 =
          counted (first_byte_of r == b) (rows_with b rs) (end - i0 - 1)
          (λ same. let w : Within start end j (i0 + 0) = h zero (omega arith) (eqb-true _ _ same) in absurd (w.other (omega (arith, here, le))))
          (λ differs. omega (arith, later)) in
          less_one (rows_with b (r ∷ rs)) (end - i0) whole (omega (arith, le, lt))
    ]

few_within : (b start end j i0 : ℕ) (rs : List MachineRow) → i0 ≤ start → start ≤ j → j < end → ((i : ℕ) → i < length rs → first_byte_of (get_or rs i no_row) ≡ b → Within start end j (i0 + i)) → rows_with b rs + 1 ≤ end - start
unfolding rows_with
few_within b start end j i0 [] le low lt h = omega arith
few_within b start end j i0 (r ∷ rs) le low lt h =
    elim (cases_lt i0 start) [
      | inl less ↦
          let later : rows_with b rs + 1 ≤ end - start = few_within b start end j (i0 + 1) rs (omega (arith, less)) low lt (λ i l e. within_next start end j i0 i (h (suc i) (omega arith) e)) in
          let whole : rows_with b (r ∷ rs) ≤ end - start - 1 =
          counted (first_byte_of r == b) (rows_with b rs) (end - start - 1)
          (λ same. let w : Within start end j (i0 + 0) = h zero (omega arith) (eqb-true _ _ same) in absurd (omega (arith, w.low, less)))
          (λ differs. omega (arith, later)) in
          less_one (rows_with b (r ∷ rs)) (end - start) whole (omega (arith, low, lt))
      | inr here ↦
          let same : i0 ≡ start = omega (arith, here, le) in
          subst (λ (k : ℕ). rows_with b (r ∷ rs) + 1 ≤ end - k) same (few_around b start end j i0 (r ∷ rs) (omega (arith, le, low)) lt h)
    ]

within_part : (rs : List MachineRow) (ps : List FirstByte) (b j i : ℕ) → is_index rs ps ≡ true → (first_byte_of (get_or rs j no_row) == b) ≡ false → i < length rs → first_byte_of (get_or rs i no_row) ≡ b →
    Within (get_or ps b no_first_byte).start (get_or ps b no_first_byte).end j (0 + i)
within_part rs ps b j i index differs l e =
    let span = indexed_at rs ps i b index l e in
    record {
      low = omega (arith, span.0);
      high = omega (arith, span.1);
      other = λ q.
          let here : i ≡ j = omega (arith, q) in
          eqb-false _ _ differs (subst (λ (k : ℕ). first_byte_of (get_or rs k no_row) ≡ b) here e);
    }

-- each row of a first byte's part has the first byte, since the part has no more rows than have it
pub spanned : (rs : List MachineRow) (ps : List FirstByte) (b j : ℕ) → is_index rs ps ≡ true → (get_or ps b no_first_byte).start ≤ j → j < (get_or ps b no_first_byte).end →
    first_byte_of (get_or rs j no_row) ≡ b
spanned rs ps b j index low lt =
    elim (cases_Bool (first_byte_of (get_or rs j no_row) == b)) [
      | inl same ↦ eqb-true _ _ same
      | inr differs ↦
          let t : Tight (get_or ps b no_first_byte) rs b = span_ends rs ps b index in
          let few : rows_with b rs + 1 ≤ (get_or ps b no_first_byte).end - (get_or ps b no_first_byte).start =
          few_within b (get_or ps b no_first_byte).start (get_or ps b no_first_byte).end j 0 rs (omega arith) low lt (λ i l e. within_part rs ps b j i index differs l e) in
          absurd (omega (arith, t.few, few))
    ]

pub halved : (s m m' n : ℕ) → 2 ^ s * m ≤ n → 1 ≤ m → 2 * m' ≤ m → (2 ^ (s + 1) * m' ≤ n) × (2 ^ (s + 1) ≤ 2 * n + 1)
halved s m m' n h one le =
    let e : 2 ^ (s + 1) ≡ 2 ^ s * 2 = pow-add 2 s 1 in
    let a : 2 ^ s * (2 * m') ≤ 2 ^ s * m = mul-le (2 ^ s) (2 * m') (2 ^ s) m (omega arith) le in
    let b : 2 ^ s * 1 ≤ 2 ^ s * m = mul-le (2 ^ s) 1 (2 ^ s) m (omega arith) one in
    let c : 2 ^ (s + 1) * m' ≡ 2 ^ s * (2 * m') = ap (λ (z : ℕ). z * m') e ∙ mul_assoc (2 ^ s) 2 m' in
    (omega arith, omega arith)

rises_le : (rs : List MachineRow) (i j : ℕ) → rises 0 rs ≡ true → i ≤ j → j < length rs → (get_or rs i no_row).opcode ≤ (get_or rs j no_row).opcode
rises_le rs i j up le lt =
    elim (cases_order i j) [
      | inl same ↦ let e : (get_or rs i no_row).opcode ≡ (get_or rs j no_row).opcode = ap (λ (k : ℕ). (get_or rs k no_row).opcode) same in omega arith
      | inr other ↦ elim other [
        | inl less ↦ let h : (get_or rs i no_row).opcode < (get_or rs j no_row).opcode = rises_lt 0 rs i j up less lt in omega arith
        | inr more ↦ absurd (omega arith)
      ]
    ]

pub below_next : (rs : List MachineRow) (start mid o : ℕ) → rises 0 rs ≡ true → mid < length rs → (get_or rs mid no_row).opcode < o →
    (k : ℕ) → start ≤ k → k < mid + 1 → (get_or rs k no_row).opcode < o
below_next rs start mid o up lt h k a b =
    let le : (get_or rs k no_row).opcode ≤ (get_or rs mid no_row).opcode = rises_le rs k mid up (omega arith) lt in omega arith

pub above_next : (rs : List MachineRow) (end mid o : ℕ) → rises 0 rs ≡ true → end ≤ length rs → o ≤ (get_or rs mid no_row).opcode → ((get_or rs mid no_row).opcode ≡ o → ⊥) →
    (k : ℕ) → mid ≤ k → k < end → o < (get_or rs k no_row).opcode
above_next rs end mid o up few h ne k a b =
    let le : (get_or rs mid no_row).opcode ≤ (get_or rs k no_row).opcode = rises_le rs mid k up a (omega arith) in omega arith

-- each row stands where the index and the offsets place it
placed_from : (i0 : ℕ) (rs : List MachineRow) (ps : List FirstByte) (offsets : List ℕ) (i : ℕ) → are_placed i0 rs ps offsets ≡ true → i < length rs →
    place_in ps offsets (first_byte_of (get_or rs i no_row)) (rest_of (place_of (get_or rs i no_row).format) (get_or rs i no_row).opcode) ≡ i0 + i
unfolding are_placed
placed_from i0 [] ps offsets i h lt = absurd (omega arith)
placed_from i0 (r ∷ rs) ps offsets zero h lt =
    let t = and_parts (place_in ps offsets (first_byte_of r) (rest_of (place_of r.format) r.opcode) == i0) (are_placed (i0 + 1) rs ps offsets) h in
    let e : i0 ≡ i0 + 0 = omega arith in eqb-true _ _ t.0 ∙ e
placed_from i0 (r ∷ rs) ps offsets (suc i) h lt =
    let e : i0 + 1 + i ≡ i0 + suc i = omega arith in
    placed_from (i0 + 1) rs ps offsets i (and_parts _ (are_placed (i0 + 1) rs ps offsets) h).1 (omega arith) ∙ e

pub row_placed : (rs : List MachineRow) (ps : List FirstByte) (offsets : List ℕ) (i : ℕ) → are_placed 0 rs ps offsets ≡ true → i < length rs →
    place_in ps offsets (first_byte_of (get_or rs i no_row)) (rest_of (place_of (get_or rs i no_row).format) (get_or rs i no_row).opcode) ≡ i
row_placed rs ps offsets i h lt = let e : 0 + i ≡ i = omega arith in placed_from 0 rs ps offsets i h lt ∙ e

-- a first byte has 256 offsets
pub record Roomy (p : FirstByte) (list : List ℕ) : Type 0 where
  pub enough : p.offsets + 256 ≤ length list
  pub few : p.offsets < 65536
  pub start : p.start < 65536

pub room_at : (ps : List FirstByte) (offsets : List ℕ) (i : ℕ) → has_room ps offsets ≡ true → i < length ps → Roomy (get_or ps i no_first_byte) offsets
unfolding has_room
room_at [] offsets i h lt = absurd (omega arith)
room_at (p ∷ ps) offsets zero h lt =
    let t = and_parts (nat_le (p.offsets + 256) (length offsets) && nat_lt p.offsets 65536 && nat_lt p.start 65536) (has_room ps offsets) h in
    let s = and_parts (nat_le (p.offsets + 256) (length offsets) && nat_lt p.offsets 65536) (nat_lt p.start 65536) t.0 in
    let u = and_parts (nat_le (p.offsets + 256) (length offsets)) (nat_lt p.offsets 65536) s.0 in
    record { enough = leb-true (p.offsets + 256) (length offsets) u.0; few = ltb-true p.offsets 65536 u.1; start = ltb-true p.start 65536 s.1 }
room_at (p ∷ ps) offsets (suc i) h lt = room_at ps offsets i (and_parts _ (has_room ps offsets) h).1 (omega arith)
