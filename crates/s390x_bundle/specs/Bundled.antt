-- Members in one image, and what a machine does that fetches it.
use Rattle.std.specs.Prelude.{◌≡◌, ℕ, ◌+◌, List, [], ◌∷◌, Option, Some, None, slice_get, slice_index}
use Rattle.s390x_base.specs.declared.ir.ExternalName.{ExternalName}
use Rattle.s390x_buffer.specs.declared.entries.MachBufferFinalized.{MachBufferFinalized}
use Rattle.s390x_image.specs.declared.error.LinkError.{LinkError}
use Rattle.s390x_operations.specs.State.{CodeImage}
use Rattle.s390x_machine.specs.Functions.{function_layout}
use Rattle.s390x_machine.specs.Layout.{Layout}
use Rattle.s390x_schedule.specs.Joint.{AreMembers}
use Rattle.s390x_schedule.specs.JointMatch.{EveryJointBlockRun, EveryJointReturnRun}
use Rattle.s390x_emit_int.specs.Headline.{linked_environment, linked_image}
use Rattle.s390x_bundle.specs.declared.error.BundleError.{BundleError}
use Rattle.s390x_bundle.specs.declared.error.BundleError.TheVariants.{DuplicateName, Emit as EmitRefused, EmptyMember as HasNoBytes, TooLong as EndsTooLate, AddressTooHigh as StartsTooHigh, Link as LinkRefused, NoMemory}
use Rattle.s390x_bundle.specs.declared.joining.Bundle.{Bundle}
use Rattle.s390x_bundle.specs.declared.member.Member.{Member}
use Rattle.s390x_bundle.specs.declared.places.PlaceCause.{PlaceCause}
use Rattle.s390x_bundle.specs.declared.places.PlaceCause.TheVariants.{EmptyMember, TooLong, AddressTooHigh}
use Rattle.s390x_bundle.specs.Bytes.{Part, PartStands, IsBetween}
use Rattle.s390x_bundle.specs.Emitted.{AreEmitted, HasNoCode, constants_of_member, first_refused, folded_trees_of_member}
use Rattle.s390x_bundle.specs.Joined.{IsBundleOf, member_parts, misplaced_member, starts_of_codes, unlinked_member}
use Rattle.s390x_bundle.specs.Names.{first_duplicate, names_of}
use Rattle.s390x_bundle.specs.Table.{symbols_of}

-- the name that a member has twice, or that a line has too
abbrev pub duplicate_of : List Member → Option ExternalName
duplicate_of members = first_duplicate (names_of members) [] members

-- ---- what the machine is told of the members

-- a member's layout: its finished code, linked at its start with the symbols of its lines and all members at their starts
abbrev pub member_layout : (base : ℕ) → (all : List Member) → (all_starts : List ℕ) → Member → (start : ℕ) → MachBufferFinalized → Layout
member_layout base all all_starts m start f =
    let symbols = symbols_of base all all_starts m.symbols.items in
    function_layout (linked_environment symbols (base + start) (folded_trees_of_member m) (constants_of_member m)) (folded_trees_of_member m) (linked_image f (base + start) symbols)

-- those of these members, by their starts and their finished code
abbrev pub member_layouts : (base : ℕ) → (all : List Member) → (all_starts : List ℕ) → List Member → (starts : List ℕ) → List MachBufferFinalized → List Layout
member_layouts base all all_starts (m ∷ ms) (start ∷ starts) (f ∷ fs) = member_layout base all all_starts m start f ∷ member_layouts base all all_starts ms starts fs
member_layouts base all all_starts _ _ _ = []

-- those of all members
abbrev pub layouts_of : (base : ℕ) → List Member → List MachBufferFinalized → List Layout
layouts_of base members codes = member_layouts base members (starts_of_codes codes) members (starts_of_codes codes) codes

-- ---- the theorem

-- the bytes at each part's start are the part's, and all bytes between are zero
pub record PartsStand (whole : List ℕ) (parts : List Part) : Type 0 where
  pub each : (i : ℕ) (p : Part) → slice_get parts i ≡ Some p → PartStands whole p
  pub between : (o : ℕ) → IsBetween parts o → slice_index whole o ≡ 0

-- Each of these members' code lies in the image. From the start of any block and from the return place of any call of any member, in every state in which the image
-- lies in memory, and under every list of others' writes outside it, every run of the machine does only what the joint typed steps of the members allow
pub record RunsJointly (whole : CodeImage) (members : List Layout) : Type 0 where
  pub are : AreMembers whole members
  pub from_blocks : EveryJointBlockRun whole members
  pub from_returns : EveryJointReturnRun whole members

-- No name comes twice, and no emission, place or linking has a cause to refuse a member. The starts are those that the members' finished code has; at each start is the
-- member's code, linked there, and all bytes between are zero. A machine that fetches them does only what the members' functions and their calls of each other allow
pub record IsImageOfMembers (base : ℕ) (members : List Member) (b : Bundle) : Type 0 where
  pub codes : List MachBufferFinalized
  pub names : duplicate_of members ≡ None
  pub emitted : AreEmitted members codes
  pub joined : IsBundleOf base members codes b
  pub stand : PartsStand b.image.bytes.items (member_parts base members codes)
  pub runs : RunsJointly (record { base = b.image.base; bytes = b.image.bytes.items }) (layouts_of base members codes)

-- ---- the causes

-- no name comes twice, emission refuses no member, and the first one that has no place has this name and this cause
pub record IsMisplaced (base : ℕ) (members : List Member) (name : ExternalName) (cause : PlaceCause) : Type 0 where
  pub codes : List MachBufferFinalized
  pub names : duplicate_of members ≡ None
  pub emitted : AreEmitted members codes
  pub member : ℕ
  pub named : slice_get (names_of members) member ≡ Some name
  pub first : misplaced_member base codes ≡ Some (record { member = member; cause = cause })

-- no name comes twice, emission refuses no member, each one has a place, and the first one that can't be linked has this name and this cause
pub record IsLinkRefused (base : ℕ) (members : List Member) (name : ExternalName) (error : LinkError) : Type 0 where
  pub codes : List MachBufferFinalized
  pub names : duplicate_of members ≡ None
  pub emitted : AreEmitted members codes
  pub placed : misplaced_member base codes ≡ None
  pub member : ℕ
  pub named : slice_get (names_of members) member ≡ Some name
  pub first : unlinked_member base members codes ≡ Some (record { member = member; error = error })

-- the first cause: of the names, of the emission of each member, of the places, of the linking of each; or want of memory
abbrev pub HasNoImage : (base : ℕ) → List Member → BundleError → Type 0
HasNoImage base members (DuplicateName name) = duplicate_of members ≡ Some name
HasNoImage base members (EmitRefused name error) = (duplicate_of members ≡ None) × HasNoCode (first_refused members) (EmitRefused name error)
HasNoImage base members (HasNoBytes name) = IsMisplaced base members name EmptyMember
HasNoImage base members (EndsTooLate name) = IsMisplaced base members name TooLong
HasNoImage base members (StartsTooHigh name) = IsMisplaced base members name AddressTooHigh
HasNoImage base members (LinkRefused name error) = IsLinkRefused base members name error
HasNoImage base members NoMemory = Unit {0}
