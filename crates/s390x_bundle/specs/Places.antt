-- Where several members stand in one image: one behind the other, with at least two bytes of zeros between.
use Rattle.std.specs.Prelude.{◌≡◌, ℕ, ◌+◌, ◌<◌, List, [], ◌∷◌, Option, Some, None, cond, nat_eq, nat_lt}
use Rattle.s390x_buffer.specs.Constants.{round_up}
use Rattle.s390x_bundle.specs.declared.places.Extent.{Extent}
use Rattle.s390x_bundle.specs.declared.places.PlaceCause.{PlaceCause}
use Rattle.s390x_bundle.specs.declared.places.PlaceError.{PlaceError}
use Rattle.s390x_bundle.specs.declared.places.PlaceError.TheVariants.{Misplaced as MisplacedMember, NoMemory}
use Rattle.s390x_bundle.specs.declared.places.PlaceCause.TheVariants.{EmptyMember, TooLong, AddressTooHigh}

-- where a member starts: the first one at 0, a later one at the least multiple of its alignment that is at least 2 behind the end of the one before
abbrev pub start_behind : (end : Option ℕ) → (alignment : ℕ) → ℕ
start_behind None alignment = 0
start_behind (Some end) alignment = round_up (end + 2) alignment

-- where members start, behind the end of the one before them
abbrev pub starts_behind : (end : Option ℕ) → List Extent → List ℕ
starts_behind end [] = []
starts_behind end (x ∷ xs) = let start = start_behind end x.alignment in start ∷ starts_behind (Some (start + x.size)) xs

-- why a member can't stand at a start: it is empty, its end would reach 2 ^ 31, or its address is 2 ^ 64 or above
abbrev pub place_cause : (base start size : ℕ) → Option PlaceCause
place_cause base start size =
    cond (nat_eq size 0) (Some EmptyMember) (cond (nat_lt (start + size) 2147483648) (cond (nat_lt (base + start) 18446744073709551616) None (Some AddressTooHigh)) (Some TooLong))

-- a member by its number, and why it has no place
pub record Misplaced : Type 0 where
  pub member : ℕ
  pub cause : PlaceCause

-- this member, where it has a cause, or else a later one
abbrev pub misplaced_or : (member : ℕ) → Option PlaceCause → Option Misplaced → Option Misplaced
misplaced_or member None later = later
misplaced_or member (Some cause) later = Some (record { member = member; cause = cause })

-- the first one of these members that has no place; they have the numbers from this one on
abbrev pub first_misplaced : (base : ℕ) → (end : Option ℕ) → (member : ℕ) → List Extent → Option Misplaced
first_misplaced base end member [] = None
first_misplaced base end member (x ∷ xs) =
    let start = start_behind end x.alignment in misplaced_or member (place_cause base start x.size) (first_misplaced base (Some (start + x.size)) (member + 1) xs)

-- the error tells this cause; it is always want of memory otherwise
abbrev pub HasNoPlaces : Option Misplaced → PlaceError → Type 0
HasNoPlaces o (MisplacedMember member cause) = o ≡ Some (record { member = member; cause = cause })
HasNoPlaces o NoMemory = Unit {0}

-- the error tells a number below this count
abbrev pub TellsOneOf : (count : ℕ) → PlaceError → Type 0
TellsOneOf count (MisplacedMember member cause) = member < count
TellsOneOf count NoMemory = Unit {0}
