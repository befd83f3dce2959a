-- What is known of members that have places.
use Rattle.std.proofs.Common.{◌≡◌, ℕ, zero, suc, ◌+◌, ◌^◌, ◌<◌, List, [], ◌∷◌, length, map, Option, Some, None, Bool, true, false, cond, nat_lt, refl, sym, ap, subst, arith}
use Rattle.std.specs.List.{All}
use Rattle.std.specs.Prelude.{nat_eq}
use Rattle.std.proofs.lemmas.Bool.{ltb-true}
use Rattle.s390x_buffer.specs.declared.entries.MachBufferFinalized.{MachBufferFinalized}
use Rattle.s390x_image.proofs.Filled.{length-filled}
use Rattle.s390x_bundle.specs.declared.member.Member.{Member}
use Rattle.s390x_bundle.specs.declared.places.Extent.{Extent}
use Rattle.s390x_bundle.specs.declared.places.PlaceCause.{PlaceCause}
use Rattle.s390x_bundle.specs.declared.places.PlaceCause.TheVariants.{EmptyMember, TooLong, AddressTooHigh}
use Rattle.s390x_bundle.specs.Bytes.{Rise, end_or_zero}
use Rattle.s390x_bundle.specs.Joined.{IsFinished, extent_of, starts_of_codes, misplaced_member, member_parts}
use Rattle.s390x_bundle.specs.Linking.{linked_parts}
use Rattle.s390x_bundle.specs.Places.{Misplaced, first_misplaced, misplaced_or, place_cause, start_behind, starts_behind}
use Rattle.s390x_bundle.specs.Table.{symbols_of}
use Rattle.s390x_bundle.proofs.Standing.{start_above}

count_behind : (end : Option ℕ) (fs : List MachBufferFinalized) → length (starts_behind end (map extent_of fs)) ≡ length fs
count_behind end [] = refl
count_behind end (f ∷ fs) = ap suc (count_behind (Some (start_behind end f.alignment + length f.bytes.items)) fs)

pub start_count : (fs : List MachBufferFinalized) → length (starts_of_codes fs) ≡ length fs
start_count fs = count_behind None fs

none_of_both : (n : ℕ) (o : Option PlaceCause) (later : Option Misplaced) → misplaced_or n o later ≡ None → (o ≡ None) × (later ≡ None)
none_of_both n None later h = (refl, h)
none_of_both n (Some cause) later h = absurd (cc)

below_top : (base start size : ℕ) → place_cause base start size ≡ None → base + start < 2 ^ 64
below_top base start size h = let e = told (nat_eq size 0) (nat_lt (start + size) 2147483648) (nat_lt (base + start) 18446744073709551616) h in ltb-true (base + start) 18446744073709551616 e
  where
    told : (a b c : Bool) → cond a (Some EmptyMember) (cond b (cond c None (Some AddressTooHigh)) (Some TooLong)) ≡ None → c ≡ true
    told true b c e = absurd (cc)
    told false false c e = absurd (cc)
    told false true false e = absurd (cc)
    told false true true e = refl

fits_behind : (base : ℕ) (end : Option ℕ) (n : ℕ) (xs : List Extent) → first_misplaced base end n xs ≡ None → All (λ s. base + s < 2 ^ 64) (starts_behind end xs)
fits_behind base end n [] h k d lt = absurd (omega (arith, lt))
fits_behind base end n (x ∷ xs) h zero d lt = below_top base (start_behind end x.alignment) x.size (none_of_both n _ _ h).0
fits_behind base end n (x ∷ xs) h (suc k) d lt = fits_behind base (Some (start_behind end x.alignment + x.size)) (n + 1) xs (none_of_both n _ _ h).1 k d (omega (arith, lt))

pub starts_fit : (base : ℕ) (fs : List MachBufferFinalized) → misplaced_member base fs ≡ None → All (λ s. base + s < 2 ^ 64) (starts_of_codes fs)
starts_fit base fs h = fits_behind base None 0 (map extent_of fs) h

rise_behind : (base : ℕ) (all : List Member) (all_starts : List ℕ) (end : Option ℕ) (ms : List Member) (fs : List MachBufferFinalized) → All IsFinished fs →
    Rise (end_or_zero end) (linked_parts base all all_starts ms (starts_behind end (map extent_of fs)) fs)
rise_behind base all all_starts end (m ∷ ms) (f ∷ fs) finished =
    let here : IsFinished f = finished 0 f (omega arith) in
    let start = start_behind end f.alignment in
    let same = length-filled (base + start) (symbols_of base all all_starts m.symbols.items) f.relocs.items f.bytes.items here.fields in (
      start_above end f.alignment here.alignment,
      subst (λ n. Rise (start + n) (linked_parts base all all_starts ms (starts_behind (Some (start + length f.bytes.items)) (map extent_of fs)) fs)) (sym same) (rise_behind base all all_starts (Some (start + length f.bytes.items)) ms fs (λ k d lt. finished (suc k) d (omega (arith, lt)))),
    )
rise_behind base all all_starts end ms fs finished = tt

pub parts_rise : (base : ℕ) (members : List Member) (fs : List MachBufferFinalized) → All IsFinished fs → Rise 0 (member_parts base members fs)
parts_rise base members fs finished = rise_behind base members (starts_of_codes fs) None members fs finished

aligned_extents : (fs : List MachBufferFinalized) → All IsFinished fs → All (λ (x : Extent). 0 < x.alignment) (map extent_of fs)
aligned_extents [] finished k d lt = absurd (omega (arith, lt))
aligned_extents (f ∷ fs) finished zero d lt = (finished 0 f (omega arith)).alignment
aligned_extents (f ∷ fs) finished (suc k) d lt = aligned_extents fs (λ j e less. finished (suc j) e (omega (arith, less))) k d (omega (arith, lt))

-- the extents of finished code have alignments
pub extents_aligned : (fs : List MachBufferFinalized) (xs : List Extent) → xs ≡ map extent_of fs → All IsFinished fs → All (λ (x : Extent). 0 < x.alignment) xs
extents_aligned fs xs same finished = subst (λ ys. All (λ (x : Extent). 0 < x.alignment) ys) (sym same) (aligned_extents fs finished)

-- a member that has a place has bytes
some_bytes : (base start size : ℕ) → place_cause base start size ≡ None → 0 < size
some_bytes base start zero h = absurd (cc)
some_bytes base start (suc n) h = omega arith

some_behind : (base : ℕ) (end : Option ℕ) (n : ℕ) (xs : List Extent) → first_misplaced base end n xs ≡ None → All (λ (x : Extent). 0 < x.size) xs
some_behind base end n [] h k d lt = absurd (omega (arith, lt))
some_behind base end n (x ∷ xs) h zero d lt = some_bytes base (start_behind end x.alignment) x.size (none_of_both n _ _ h).0
some_behind base end n (x ∷ xs) h (suc k) d lt = some_behind base (Some (start_behind end x.alignment + x.size)) (n + 1) xs (none_of_both n _ _ h).1 k d (omega (arith, lt))

pub each_has_bytes : (base : ℕ) (xs : List Extent) → first_misplaced base None 0 xs ≡ None → All (λ (x : Extent). 0 < x.size) xs
each_has_bytes base xs h = some_behind base None 0 xs h
