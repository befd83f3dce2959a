-- What each relocation stores, and where (the s390x supplement of the ELF ABI: `R_390_PC32DBL`, `R_390_PLT32DBL`, `R_390_64`).
use Rattle.std.specs.Prelude.{ℕ, ◌+◌, ◌<◌, ◌≤◌, ◌⊎◌, ℤ, pos, ◌+ℤ◌, ◌-ℤ◌, Option, Some, None, List, [], ◌∷◌, ◌++◌, length, take, drop}
use Rattle.std.specs.Int.{w32, w64, cast_unsigned, to_be_bytes}
use Rattle.std.specs.Int.RustNames.{int_div}
use Rattle.s390x_base.specs.declared.ir.Reloc.{Reloc}
use Rattle.s390x_base.specs.declared.ir.Reloc.TheVariants.{S390xPCRel32Dbl, S390xPLTRel32Dbl, Abs8}
use Rattle.s390x_buffer.specs.declared.entries.RelocEntry.{RelocEntry}
use Rattle.s390x_image.specs.Symbols.{Symbols, address_of}

-- how many bytes a relocation fills, from its offset on
abbrev pub field_length : Reloc → ℕ
field_length S390xPCRel32Dbl = 4
field_length S390xPLTRel32Dbl = 4
field_length Abs8 = 8

-- a relocation's bytes lie in code of a length
abbrev pub LiesIn : ℕ → RelocEntry → Type 0
LiesIn n r = r.offset + field_length r.kind ≤ n

-- a byte is none of a relocation's
abbrev pub IsOutside : ℕ → RelocEntry → Type 0
IsOutside k r = (k < r.offset) ⊎ (r.offset + field_length r.kind ≤ k)

-- symbol plus addend
abbrev pub target_of : ℕ → RelocEntry → ℤ
target_of symbol r = pos symbol +ℤ r.addend

-- symbol plus addend less the field's address
abbrev pub field_distance : ℕ → ℕ → RelocEntry → ℤ
field_distance base symbol r = target_of symbol r -ℤ pos (base + r.offset)

-- half of a distance as a signed word, the most significant byte first
abbrev pub half_field : ℤ → List ℕ
half_field distance = to_be_bytes w32 (cast_unsigned w32 (int_div distance (pos 2)))

-- a target as a doubleword, the most significant byte first
abbrev pub target_field : ℤ → List ℕ
target_field target = to_be_bytes w64 (cast_unsigned w64 target)

-- what a relocation of this kind stores for a target at a distance
abbrev pub field_of : Reloc → (target distance : ℤ) → List ℕ
field_of S390xPCRel32Dbl target distance = half_field distance
field_of S390xPLTRel32Dbl target distance = half_field distance
field_of Abs8 target distance = target_field target

-- a symbol's address; 0 for one that has none, which linking refuses
abbrev pub address_or_zero : Option ℕ → ℕ
address_or_zero None = 0
address_or_zero (Some address) = address

-- the bytes that a relocation stores
abbrev pub field_bytes : ℕ → Symbols → RelocEntry → List ℕ
field_bytes base table r = let symbol = address_or_zero (address_of table r.name) in field_of r.kind (target_of symbol r) (field_distance base symbol r)

-- bytes with others in their place from an index on
abbrev pub with_bytes_at : List ℕ → ℕ → List ℕ → List ℕ
with_bytes_at bytes at new = take at bytes ++ (new ++ drop (at + length new) bytes)

-- bytes with a relocation's field filled
abbrev pub fill : ℕ → ℕ → RelocEntry → List ℕ → List ℕ
fill base symbol r bytes = with_bytes_at bytes r.offset (field_of r.kind (target_of symbol r) (field_distance base symbol r))

-- bytes with the relocations' fields filled, one after another
abbrev pub with_fields_filled : ℕ → Symbols → List RelocEntry → List ℕ → List ℕ
with_fields_filled base table [] bytes = bytes
with_fields_filled base table (r ∷ rs) bytes = with_fields_filled base table rs (fill base (address_or_zero (address_of table r.name)) r bytes)
