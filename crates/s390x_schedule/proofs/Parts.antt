-- What a machine sees of a part where it sees the whole image.
use Rattle.std.proofs.Common.{◌≡◌, ℕ, zero, suc, ◌+◌, ◌-◌, ◌<◌, ◌≤◌, List, [], ◌∷◌, ◌++◌, length, get_or, Bool, true, false, ◌||◌, IsTrue, IsFalse, slice_index, refl, sym, ap, ◌∙◌, arith, length-append, le-leb, lt-ltb, true≢false}
use Rattle.std.proofs.lemmas.Bool.{and_parts, and_from, leb-true, ltb-true}
use Rattle.std.proofs.lemmas.List.{get_or_append_left, get_or-append-add}
use Rattle.s390x_operations.specs.State.{Memory, wrapping_add64, Write, CodeImage, is_within, overlaps, IsLoaded, MayWrite}
use Rattle.s390x_operations.specs.Access.{Access, Untouched, Reads, Stores, Locks, stores_into}
use Rattle.s390x_schedule.specs.Parts.{IsPart}

-- the offset of one of the part's addresses is below the part's length
offset_below : (part : CodeImage) (a : ℕ) → IsTrue (is_within part a) → (part.base ≤ a) × (a < part.base + length part.bytes)
offset_below part a h =
    let p = and_parts _ _ h in
    (leb-true part.base a p.0, ltb-true a (part.base + length part.bytes) p.1)

pub within_whole : {whole part : CodeImage} → IsPart whole part → (a : ℕ) → IsTrue (is_within part a) → IsTrue (is_within whole a)
within_whole {whole} {part} x a h =
    let p = offset_below part a h in
    let all : length whole.bytes ≡ length x.earlier + (length part.bytes + length x.later) = ap length x.bytes ∙ length-append x.earlier (part.bytes ++ x.later) ∙ ap (λ n. length x.earlier + n) (length-append part.bytes x.later) in
    and_from _ _ (le-leb whole.base a (omega (arith, p.0, x.base))) (lt-ltb a (whole.base + length whole.bytes) (omega (arith, p.1, x.base, all)))

outside_part : {whole part : CodeImage} → IsPart whole part → (a : ℕ) → IsFalse (is_within whole a) → IsFalse (is_within part a)
outside_part {whole} {part} x a out = go (is_within part a) refl
  where
    go : (b : Bool) → is_within part a ≡ b → IsFalse b
    go false e = refl
    go true e = absurd (true≢false (sym (within_whole x a e) ∙ out))

pub loaded_part : {whole part : CodeImage} → IsPart whole part → (m : Memory) → IsLoaded whole m → IsLoaded part m
loaded_part {whole} {part} x m l = record { has = λ a h. l.has a (within_whole x a h); get = λ a h. l.get a (within_whole x a h) ∙ same a h }
  where
    same : (a : ℕ) → IsTrue (is_within part a) → slice_index whole.bytes (a - whole.base) ≡ slice_index part.bytes (a - part.base)
    same a h =
        let p = offset_below part a h in
        let at : a - whole.base ≡ length x.earlier + (a - part.base) = omega (arith, p.0, x.base) in
        let below : a - part.base < length part.bytes = omega (arith, p.0, p.1) in
        ap (λ bs. get_or bs (a - whole.base) 0) x.bytes
        ∙ ap (λ n. get_or (x.earlier ++ (part.bytes ++ x.later)) n 0) at
        ∙ get_or-append-add x.earlier (part.bytes ++ x.later) (a - part.base) 0
        ∙ get_or_append_left part.bytes x.later 0 (a - part.base) below

pub may_write_part : {whole part : CodeImage} → IsPart whole part → (has : ℕ → Bool) (ws : List Write) → MayWrite whole has ws → MayWrite part has ws
may_write_part x has [] may = tt
may_write_part x has (w ∷ ws) may = (may.0, outside_part x w.address may.1, may.2, may_write_part x has ws may.3)

-- one of two tests of the part holds, so one of two of the whole does
either_whole : (a b x y : Bool) → (IsTrue a → IsTrue x) → (IsTrue b → IsTrue y) → IsTrue (a || b) → IsTrue (x || y)
either_whole true b x y first second h = ap (λ t. t || y) (first refl)
either_whole false b true y first second h = refl
either_whole false b false y first second h = second h

overlaps_whole : {whole part : CodeImage} → IsPart whole part → (a n : ℕ) → IsTrue (overlaps part a n) → IsTrue (overlaps whole a n)
overlaps_whole x a zero h = h
overlaps_whole {whole} {part} x a (suc n) h = either_whole (is_within part (wrapping_add64 a n)) (overlaps part a n) (is_within whole (wrapping_add64 a n)) (overlaps whole a n) (within_whole x (wrapping_add64 a n)) (overlaps_whole x a n) h

pub stores_into_whole : {whole part : CodeImage} → IsPart whole part → (x : Access) → IsTrue (stores_into part x) → IsTrue (stores_into whole x)
stores_into_whole x Untouched h = h
stores_into_whole x (Reads aligned a n) h = h
stores_into_whole x (Stores aligned a n v) h = overlaps_whole x a n h
stores_into_whole x (Locks a n change) h = overlaps_whole x a n h
