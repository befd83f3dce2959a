-- What the fields of a symbol hold once they are linked (the s390x supplement of the ELF ABI: `R_390_64`, `R_390_PC32DBL`).
use Rattle.std.specs.Prelude.{ℕ, ◌+◌, ℤ, pos, ◌+ℤ◌, ◌-ℤ◌}
use Rattle.std.specs.Int.{w32, w64, cast_unsigned}
use Rattle.std.specs.Int.RustNames.{int_div}
use Rattle.s390x_base.specs.declared.ir.ExternalName.{ExternalName}
use Rattle.s390x_image.specs.Symbols.{Symbols, address_of}
use Rattle.s390x_image.specs.Fields.{address_or_zero}

-- the doubleword: the symbol's address plus the offset
abbrev pub symbol_value : Symbols → ExternalName → ℤ → ℕ
symbol_value table name offset = cast_unsigned w64 (pos (address_or_zero (address_of table name)) +ℤ offset)

-- half of the distance from a place in an image at a base to a symbol plus an offset, as an unsigned word
abbrev pub symbol_distance : (base : ℕ) → Symbols → (origin : ℕ) → ExternalName → ℤ → ℕ
symbol_distance base table origin name offset = cast_unsigned w32 (int_div (pos (address_or_zero (address_of table name)) +ℤ offset -ℤ pos (base + origin)) (pos 2))
