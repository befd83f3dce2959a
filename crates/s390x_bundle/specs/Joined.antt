-- The finished code of members in one image.
use Rattle.std.specs.Prelude.{◌≡◌, ℕ, ◌<◌, List, map, length, Option, Some, None}
use Rattle.s390x_buffer.specs.declared.entries.MachBufferFinalized.{MachBufferFinalized}
use Rattle.s390x_bundle.specs.declared.joining.Bundle.{Bundle}
use Rattle.s390x_bundle.specs.declared.joining.JoinError.{JoinError}
use Rattle.s390x_bundle.specs.declared.joining.JoinError.TheVariants.{Misplaced as MisplacedMember, Unlinked as UnlinkedMember, NoMemory}
use Rattle.s390x_bundle.specs.declared.member.Member.{Member}
use Rattle.s390x_bundle.specs.declared.places.Extent.{Extent}
use Rattle.s390x_bundle.specs.Bytes.{Part, parts_behind}
use Rattle.s390x_bundle.specs.Linking.{Unlinked, HasItsFields, first_unlinked, linked_parts}
use Rattle.s390x_bundle.specs.Places.{Misplaced, first_misplaced, starts_behind}

-- what finished code takes of an image
abbrev pub extent_of : MachBufferFinalized → Extent
extent_of f = record { size = length f.bytes.items; alignment = f.alignment }

-- code that `finish` may give: its fields lie in it, it has an alignment, and it is shorter than 2 ^ 31 bytes
pub record IsFinished (f : MachBufferFinalized) : Type 0 where
  pub fields : HasItsFields f
  pub alignment : 0 < f.alignment
  pub short : length f.bytes.items < 2147483648

-- where members start, by their finished code
abbrev pub starts_of_codes : List MachBufferFinalized → List ℕ
starts_of_codes codes = starts_behind None (map extent_of codes)

-- the first member that has no place
abbrev pub misplaced_member : (base : ℕ) → List MachBufferFinalized → Option Misplaced
misplaced_member base codes = first_misplaced base None 0 (map extent_of codes)

-- the first member that can't be linked at its start
abbrev pub unlinked_member : (base : ℕ) → List Member → List MachBufferFinalized → Option Unlinked
unlinked_member base members codes = first_unlinked base members (starts_of_codes codes) 0 members (starts_of_codes codes) codes

-- the members' linked code at their starts
abbrev pub member_parts : (base : ℕ) → List Member → List MachBufferFinalized → List Part
member_parts base members codes = linked_parts base members (starts_of_codes codes) members (starts_of_codes codes) codes

-- each member has a place and can be linked there, and the image has their linked code at their starts, and zeros between
pub record IsBundleOf (base : ℕ) (members : List Member) (codes : List MachBufferFinalized) (b : Bundle) : Type 0 where
  pub placed : misplaced_member base codes ≡ None
  pub linked : unlinked_member base members codes ≡ None
  pub base_is : b.image.base ≡ base
  pub starts : b.starts.items ≡ starts_of_codes codes
  pub bytes : b.image.bytes.items ≡ parts_behind 0 (member_parts base members codes)

-- the first cause: of the places, and else of linking; or want of memory
abbrev pub HasNoBundle : (base : ℕ) → List Member → List MachBufferFinalized → JoinError → Type 0
HasNoBundle base members codes (MisplacedMember n cause) = misplaced_member base codes ≡ Some (record { member = n; cause = cause })
HasNoBundle base members codes (UnlinkedMember n error) = (misplaced_member base codes ≡ None) × (unlinked_member base members codes ≡ Some (record { member = n; error = error }))
HasNoBundle base members codes NoMemory = Unit {0}

-- the error tells a number below this count
abbrev pub TellsMember : (count : ℕ) → JoinError → Type 0
TellsMember count (MisplacedMember n cause) = n < count
TellsMember count (UnlinkedMember n error) = n < count
TellsMember count NoMemory = Unit {0}
