-- Several functions in a text, one behind the other.
use Rattle.std.specs.Prelude.{◌≡◌, ℕ, ◌+◌, ◌-◌, max, cond, nat_le, Option, Some, None, List, [], ◌∷◌, ◌++◌, length, map, replicate, string_bytes, codes, true}
use Rattle.std.specs.List.{All}
use Rattle.s390x_buffer.specs.Constants.{round_up}
use Rattle.s390x_buffer.specs.declared.entries.RelocEntry.{RelocEntry}
use Rattle.s390x_image.specs.Symbols.{Symbols}
use Rattle.s390x_image.specs.Fields.{LiesIn, with_fields_filled}
use Rattle.s390x_image.specs.Causes.{link_cause}
use Rattle.s390x_elf.specs.declared.error.ObjectError.{ObjectError}
use Rattle.s390x_elf.specs.declared.error.ObjectError.TheVariants.{TooLong}
use Rattle.s390x_elf.specs.declared.members.ObjectMember.{ObjectMember}
use Rattle.s390x_elf.specs.declared.names.GivenName.{GivenName}
use Rattle.s390x_elf.specs.declared.members.Text.{Text}
use Rattle.s390x_elf.specs.File.{sections}
use Rattle.s390x_elf.specs.Symbols.{Relocation, relocations_for}
use Rattle.s390x_elf.specs.Linking.{fits_at, linked_text}
use Rattle.s390x_elf.specs.Names.{Naming, name_in}
use Rattle.s390x_elf.specs.Object.{Function, Agrees, IsObjectOf, function_of, name_address}
use Rattle.s390x_elf.specs.Causes.{first_cause, text_cause}

-- how many bytes a member has
abbrev pub size_of : ObjectMember → ℕ
size_of m = length m.code.bytes.items

-- where a member starts: the first one at 0, a later one at the least multiple of its alignment that is at least 2 behind the end of the one before; an alignment of 0 is one of 1
abbrev pub start_behind : (end : Option ℕ) → (alignment : ℕ) → ℕ
start_behind None alignment = 0
start_behind (Some end) alignment = round_up (end + 2) (max alignment 1)

abbrev pub start_of : (end : Option ℕ) → ObjectMember → ℕ
start_of end m = start_behind end m.code.alignment

-- where a member ends
abbrev pub end_of : (end : Option ℕ) → ObjectMember → ℕ
end_of end m = start_of end m + size_of m

-- where the member before ends; 0 where there is none
abbrev pub end_or_zero : Option ℕ → ℕ
end_or_zero None = 0
end_or_zero (Some end) = end

-- the function of a member that starts there
abbrev pub function_at : (start : ℕ) → ObjectMember → Function
function_at start m = record { name = string_bytes m.name; start = start; size = size_of m }

-- the members' functions
abbrev pub functions_behind : (end : Option ℕ) → List ObjectMember → List Function
functions_behind end [] = []
functions_behind end (m ∷ ms) = function_at (start_of end m) m ∷ functions_behind (Some (end_of end m)) ms

-- so many zeros
abbrev pub zeros : ℕ → List ℕ
zeros n = replicate n 0

-- a member's bytes at its start, with zeros before it
abbrev pub member_text : (end : Option ℕ) → ObjectMember → List ℕ
member_text end m = zeros (start_of end m - end_or_zero end) ++ m.code.bytes.items

-- the members' bytes at their starts, with zeros between
abbrev pub text_behind : (end : Option ℕ) → List ObjectMember → List ℕ
text_behind end [] = []
text_behind end (m ∷ ms) = member_text end m ++ text_behind (Some (end_of end m)) ms

-- a relocation of a member that starts there
abbrev pub member_relocation : (start : ℕ) → RelocEntry → RelocEntry
member_relocation start r = record { offset = start + r.offset; kind = r.kind; name = r.name; addend = r.addend }

-- the members' relocations, by their offsets in the text
abbrev pub relocs_behind : (end : Option ℕ) → List ObjectMember → List RelocEntry
relocs_behind end [] = []
relocs_behind end (m ∷ ms) = map (member_relocation (start_of end m)) m.code.relocs.items ++ relocs_behind (Some (end_of end m)) ms

-- the greatest of an alignment and the members'
abbrev pub greatest_alignment : ℕ → List ObjectMember → ℕ
greatest_alignment so_far [] = so_far
greatest_alignment so_far (m ∷ ms) = greatest_alignment (max so_far m.code.alignment) ms

-- a text has these members one behind the other
pub record IsTextOfMembers (ms : List ObjectMember) (text : Text) : Type 0 where
  pub functions : map function_of text.functions.items ≡ functions_behind None ms
  pub alignment : text.alignment ≡ greatest_alignment 1 ms
  pub bytes : text.bytes.items ≡ text_behind None ms
  pub relocs : text.relocs.items ≡ relocs_behind None ms

-- a text with one more member behind the others
pub record HasMember (end : Option ℕ) (m : ObjectMember) (old new : Text) : Type 0 where
  pub functions : map function_of new.functions.items ≡ map function_of old.functions.items ++ function_at (start_of end m) m ∷ []
  pub alignment : new.alignment ≡ max old.alignment m.code.alignment
  pub bytes : new.bytes.items ≡ old.bytes.items ++ member_text end m
  pub relocs : new.relocs.items ≡ old.relocs.items ++ map (member_relocation (start_of end m)) m.code.relocs.items

-- a file is the object of these members, some of whose symbols are given names
abbrev pub IsObjectOfMembers : List GivenName → List ObjectMember → (file : List ℕ) → Type 0
IsObjectOfMembers names ms file = IsObjectOf (name_in names) (functions_behind None ms) (greatest_alignment 1 ms) (text_behind None ms) (relocs_behind None ms) file

-- ---- the causes

-- a number is at a limit or above it
abbrev pub limit_cause : (limit n : ℕ) → Option ObjectError
limit_cause limit n = cond (nat_le limit n) (Some TooLong) None

-- an offset isn't below 2 ^ 32
abbrev pub offsets_cause : (start : ℕ) → List RelocEntry → Option ObjectError
offsets_cause start [] = None
offsets_cause start (r ∷ rs) = first_cause (limit_cause 4294967296 (start + r.offset)) (offsets_cause start rs)

-- why a member isn't put behind others: it ends at 2 ^ 31 or above, or a relocation of it has an offset of 2 ^ 32 or above
abbrev pub place_cause : (end : Option ℕ) → ObjectMember → Option ObjectError
place_cause end m = first_cause (limit_cause 2147483648 (end_of end m)) (offsets_cause (start_of end m) m.code.relocs.items)

-- the first cause of members one behind the other
abbrev pub places_cause : (end : Option ℕ) → List ObjectMember → Option ObjectError
places_cause end [] = None
places_cause end (m ∷ ms) = first_cause (place_cause end m) (places_cause (Some (end_of end m)) ms)

-- why members, some of whose symbols are given names, are not made an object: their places, then as of any text
abbrev pub members_cause : List GivenName → List ObjectMember → Option ObjectError
members_cause names ms = first_cause (places_cause None ms) (text_cause names (functions_behind None ms) (relocs_behind None ms))

-- ---- linking

-- a member's code linked at its start by a table of its own, with zeros before it
abbrev pub member_image : (base : ℕ) (end : Option ℕ) → Symbols → ObjectMember → List ℕ
member_image base end table m = zeros (start_of end m - end_or_zero end) ++ with_fields_filled (base + start_of end m) table m.code.relocs.items m.code.bytes.items

-- the members' code, each one linked at its start by a table of its own, with zeros between
abbrev pub images_behind : (base : ℕ) (end : Option ℕ) → List Symbols → List ObjectMember → List ℕ
images_behind base end [] ms = []
images_behind base end (table ∷ tables) [] = []
images_behind base end (table ∷ tables) (m ∷ ms) = member_image base end table m ++ images_behind base (Some (end_of end m)) tables ms

-- a member's fields lie in it, its table has the addresses of the names that its relocations use, and `link` has no cause there
pub record IsLinkable (named : Naming) (address : List ℕ → ℕ) (place : ℕ) (table : Symbols) (m : ObjectMember) : Type 0 where
  pub fields : All (LiesIn (size_of m)) m.code.relocs.items
  pub addresses : Agrees named address table m.code.relocs.items
  pub no_cause : link_cause m.code place table ≡ None

-- each member is so at its start, with a table of its own
abbrev pub AreLinkable : Naming → (address : List ℕ → ℕ) → (base : ℕ) (end : Option ℕ) → List Symbols → List ObjectMember → Type 0
AreLinkable named address base end [] [] = Unit {0}
AreLinkable named address base end [] (m ∷ ms) = ⊥
AreLinkable named address base end (table ∷ tables) [] = ⊥
AreLinkable named address base end (table ∷ tables) (m ∷ ms) = IsLinkable named address (base + start_of end m) table m × AreLinkable named address base (Some (end_of end m)) tables ms

-- linked at any base where `link` has no cause for any member at its start, each value fits its field, and the text is the members' images at their starts, with zeros between
abbrev pub IsLinkedAsMembers : List GivenName → List ObjectMember → (file : List ℕ) → Type 0
IsLinkedAsMembers names ms file =
    (base : ℕ) (others : List ℕ → ℕ) (tables : List Symbols) → AreLinkable (name_in names) (name_address base others (functions_behind None ms)) base None tables ms →
    All (λ (r : Relocation). fits_at base others r ≡ true) (relocations_for (sections file) (codes ".text")) × (linked_text file base others ≡ images_behind base None tables ms)
