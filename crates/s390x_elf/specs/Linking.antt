-- What a static linker makes of an object (the s390x supplement of the ELF ABI, "Relocation Types").
use Rattle.std.specs.Prelude.{ℕ, ◌+◌, ℤ, pos, ◌+ℤ◌, ◌-ℤ◌, Bool, cond, ◌&&◌, nat_eq, codes, List, [], ◌∷◌}
use Rattle.std.specs.Int.{w32, w64, cast_unsigned, to_be_bytes}
use Rattle.std.specs.Int.RustNames.{int_div}
use Rattle.s390x_image.specs.Causes.{is_address, is_even, is_signed_word}
use Rattle.s390x_image.specs.Fields.{with_bytes_at}
use Rattle.s390x_elf.specs.File.{sections}
use Rattle.s390x_elf.specs.Symbols.{Symbol, Relocation, named_section, relocations_for}

-- a symbol's address where the object's text stands at a base: the base plus its value, or where the object doesn't define it, what others give its name
abbrev pub symbol_address : (base : ℕ) (others : List ℕ → ℕ) → Symbol → ℕ
symbol_address base others s = cond (nat_eq s.st_shndx 0) (others s.name) (base + s.st_value)

-- `R_390_64` (22): `S + A` in eight bytes. `R_390_PC32DBL` (19) and `R_390_PLT32DBL` (20): `(S + A - P) >> 1` in four, a call not being led through a
-- procedure linkage table
abbrev pub relocation_field : ℕ → (s a p : ℤ) → List ℕ
relocation_field type s a p = cond (nat_eq type 22) (to_be_bytes w64 (cast_unsigned w64 (s +ℤ a))) (to_be_bytes w32 (cast_unsigned w32 (int_div ((s +ℤ a) -ℤ p) (pos 2))))

-- the formula's value fits its field: an address, or an even distance whose half is a signed word
abbrev pub fits_field : ℕ → (s a p : ℤ) → Bool
fits_field type s a p = cond (nat_eq type 22) (is_address (s +ℤ a)) (is_even ((s +ℤ a) -ℤ p) && is_signed_word (int_div ((s +ℤ a) -ℤ p) (pos 2)))

-- a relocation's value fits its field where the text stands at a base
abbrev pub fits_at : (base : ℕ) (others : List ℕ → ℕ) → Relocation → Bool
fits_at base others r = fits_field r.r_type (pos (symbol_address base others r.r_sym)) r.r_addend (pos (base + r.r_offset))

-- the section's bytes with the relocations applied, one after another
abbrev pub relocated_bytes : (base : ℕ) (others : List ℕ → ℕ) → List Relocation → List ℕ → List ℕ
relocated_bytes base others [] bytes = bytes
relocated_bytes base others (r ∷ rs) bytes =
    relocated_bytes base others rs (with_bytes_at bytes r.r_offset (relocation_field r.r_type (pos (symbol_address base others r.r_sym)) r.r_addend (pos (base + r.r_offset))))

-- the text of an object that is linked at a base, where others give the names that it doesn't define these addresses
abbrev pub linked_text : (file : List ℕ) (base : ℕ) (others : List ℕ → ℕ) → List ℕ
linked_text file base others = let ss = sections file in relocated_bytes base others (relocations_for ss (codes ".text")) (named_section ss (codes ".text")).content
