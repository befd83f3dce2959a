-- Why linking is refused: the base first, then each relocation in order (what a field can hold: the s390x supplement of the ELF ABI).
use Rattle.std.specs.Prelude.{ℕ, ◌+◌, ◌%◌, ℤ, pos, negsuc, ◌-ℤ◌, Bool, cond, ◌&&◌, nat_eq, nat_le, int_lt, Option, Some, None, List, [], ◌∷◌, length}
use Rattle.std.specs.Ordering.{int_eq}
use Rattle.std.specs.Int.RustNames.{int_le, int_div, int_rem}
use Rattle.s390x_base.specs.declared.ir.Reloc.{Reloc}
use Rattle.s390x_base.specs.declared.ir.Reloc.TheVariants.{S390xPCRel32Dbl, S390xPLTRel32Dbl, Abs8}
use Rattle.s390x_buffer.specs.declared.entries.RelocEntry.{RelocEntry}
use Rattle.s390x_buffer.specs.declared.entries.MachBufferFinalized.{MachBufferFinalized}
use Rattle.s390x_image.specs.declared.error.LinkError.{LinkError}
use Rattle.s390x_image.specs.declared.error.LinkError.TheVariants.{MisalignedBase, ImageTooHigh, UndefinedSymbol, AddressOverflow, OddSymbol, TooFar}
use Rattle.s390x_image.specs.Symbols.{Symbols, address_of}
use Rattle.s390x_image.specs.Fields.{target_of, field_distance}

-- the first of two causes
abbrev pub first_link_cause : Option LinkError → Option LinkError → Option LinkError
first_link_cause None later = later
first_link_cause (Some e) later = Some e

-- the base is a multiple of the alignment, and the image ends at 2 ^ 64 or before
abbrev pub base_cause : (alignment size base : ℕ) → Option LinkError
base_cause alignment size base =
    cond (nat_eq (base % alignment) 0) (cond (nat_le (base + size) 18446744073709551616) None (Some ImageTooHigh)) (Some MisalignedBase)

-- a number from 0 to 2 ^ 64 - 1
abbrev pub is_address : ℤ → Bool
is_address z = int_le (pos 0) z && int_lt z (pos 18446744073709551616)

-- a number from -2 ^ 31 to 2 ^ 31 - 1
abbrev pub is_signed_word : ℤ → Bool
is_signed_word z = int_le (negsuc 2147483647) z && int_lt z (pos 2147483648)

-- an even number
abbrev pub is_even : ℤ → Bool
is_even z = int_eq (int_rem z (pos 2)) (pos 0)

-- why a target isn't stored as an address
abbrev pub absolute_cause : ℤ → Option LinkError
absolute_cause target = cond (is_address target) None (Some AddressOverflow)

-- why a distance isn't stored as its half
abbrev pub half_cause : ℤ → Option LinkError
half_cause distance = cond (is_even distance) (cond (is_signed_word (int_div distance (pos 2))) None (Some TooFar)) (Some OddSymbol)

-- the field stands 2 bytes behind the address that it counts from
abbrev pub relative_cause : (target distance : ℤ) → Option LinkError
relative_cause target distance = first_link_cause (absolute_cause (target -ℤ pos 2)) (half_cause distance)

-- why a relocation of this kind can't store its target
abbrev pub field_cause : Reloc → (target distance : ℤ) → Option LinkError
field_cause S390xPCRel32Dbl target distance = relative_cause target distance
field_cause S390xPLTRel32Dbl target distance = relative_cause target distance
field_cause Abs8 target distance = absolute_cause target

-- why a relocation's field can't be filled, where its symbol has this address or none
abbrev pub symbol_cause : ℕ → RelocEntry → Option ℕ → Option LinkError
symbol_cause base r None = Some UndefinedSymbol
symbol_cause base r (Some symbol) = field_cause r.kind (target_of symbol r) (field_distance base symbol r)

-- why a relocation's field can't be filled
abbrev pub reloc_cause : ℕ → Symbols → RelocEntry → Option LinkError
reloc_cause base table r = symbol_cause base r (address_of table r.name)

-- the first cause among the relocations, in order
abbrev pub relocs_cause : ℕ → Symbols → List RelocEntry → Option LinkError
relocs_cause base table [] = None
relocs_cause base table (r ∷ rs) = first_link_cause (reloc_cause base table r) (relocs_cause base table rs)

-- why code can't be linked at a base: the base, then each relocation
abbrev pub link_cause : MachBufferFinalized → ℕ → Symbols → Option LinkError
link_cause code base table = first_link_cause (base_cause code.alignment (length code.bytes.items) base) (relocs_cause base table code.relocs.items)
