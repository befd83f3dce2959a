-- The linking of members, each at its start, with its own lines and all members as symbols.
use Rattle.std.specs.Prelude.{◌≡◌, ℕ, ◌+◌, ◌⊎◌, List, [], ◌∷◌, Option, Some, None, length}
use Rattle.std.specs.List.{All}
use Rattle.s390x_buffer.specs.declared.entries.MachBufferFinalized.{MachBufferFinalized}
use Rattle.s390x_image.specs.Causes.{link_cause}
use Rattle.s390x_image.specs.Fields.{LiesIn, with_fields_filled}
use Rattle.s390x_image.specs.Symbols.{Symbols}
use Rattle.s390x_image.specs.declared.error.LinkError.{LinkError}
use Rattle.s390x_image.specs.declared.error.LinkError.TheVariants.{NoMemory}
use Rattle.s390x_bundle.specs.declared.linking.LinkRefusal.{LinkRefusal}
use Rattle.s390x_bundle.specs.declared.member.Member.{Member}
use Rattle.s390x_bundle.specs.Bytes.{Part}
use Rattle.s390x_bundle.specs.Table.{symbols_of}

-- the fields that linking fills lie in the code
abbrev pub HasItsFields : MachBufferFinalized → Type 0
HasItsFields f = All (LiesIn (length f.bytes.items)) f.relocs.items

-- code that has no cause to be refused at an address, and its bytes with the fields filled
abbrev pub IsLinked : MachBufferFinalized → (address : ℕ) → Symbols → List ℕ → Type 0
IsLinked code address symbols bytes = (link_cause code address symbols ≡ None) × (bytes ≡ with_fields_filled address symbols code.relocs.items code.bytes.items)

-- the first cause by which code is refused at an address; want of memory is free
abbrev pub IsLinkCause : MachBufferFinalized → (address : ℕ) → Symbols → LinkError → Type 0
IsLinkCause code address symbols e = (e ≡ NoMemory) ⊎ (link_cause code address symbols ≡ Some e)

-- a member whose code can't be linked, by its number, and why
pub record Unlinked : Type 0 where
  pub member : ℕ
  pub error : LinkError

-- this member, where it has a cause, or else a later one
abbrev pub unlinked_or : (member : ℕ) → Option LinkError → Option Unlinked → Option Unlinked
unlinked_or member None later = later
unlinked_or member (Some error) later = Some (record { member = member; error = error })

-- The first one of these members that can't be linked, by their starts and their finished code; they have the numbers from this one on. Of all members there are
-- names and starts
abbrev pub first_unlinked : (base : ℕ) → (all : List Member) → (all_starts : List ℕ) → (member : ℕ) → List Member → (starts : List ℕ) → List MachBufferFinalized → Option Unlinked
first_unlinked base all all_starts member (m ∷ ms) (start ∷ starts) (f ∷ fs) =
    unlinked_or member (link_cause f (base + start) (symbols_of base all all_starts m.symbols.items)) (first_unlinked base all all_starts (member + 1) ms starts fs)
first_unlinked base all all_starts member _ _ _ = None

-- these members' linked code at their starts
abbrev pub linked_parts : (base : ℕ) → (all : List Member) → (all_starts : List ℕ) → List Member → (starts : List ℕ) → List MachBufferFinalized → List Part
linked_parts base all all_starts (m ∷ ms) (start ∷ starts) (f ∷ fs) =
    record { start = start; bytes = with_fields_filled (base + start) (symbols_of base all all_starts m.symbols.items) f.relocs.items f.bytes.items } ∷ linked_parts base all all_starts ms starts fs
linked_parts base all all_starts _ _ _ = []

-- the refusal is want of memory, or tells this cause
abbrev pub IsUnlinked : Option Unlinked → LinkRefusal → Type 0
IsUnlinked o refusal = (refusal.error ≡ NoMemory) ⊎ (o ≡ Some (record { member = refusal.member; error = refusal.error }))
