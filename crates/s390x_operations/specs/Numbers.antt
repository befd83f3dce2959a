-- Numbers of a size, with and without signs (Principles of Operation, chapter 7, "General instructions": binary integers).
use Rattle.std.specs.Prelude.{ℕ, Bool, if◌then◌else◌, nat_lt, ◌&&◌, ℤ, pos, neg_ℤ, ◌-ℤ◌, int_lt, int_le, unsigned_abs}
use Rattle.std.specs.Int.{int_rem_euclid}
use Rattle.s390x_operations.specs.declared.size.Size.{Size}
use Rattle.s390x_operations.specs.declared.size.Size.TheVariants.{Halfword, Word, Doubleword}

-- how many numbers have the size
abbrev pub modulus : Size → ℕ
modulus Halfword = 65536
modulus Word = 4294967296
modulus Doubleword = 18446744073709551616

-- how many of them have no sign
abbrev pub half : Size → ℕ
half Halfword = 32768
half Word = 2147483648
half Doubleword = 9223372036854775808

-- a number of the size, read with its sign
abbrev pub signed_number : Size → ℕ → ℤ
signed_number size x = if nat_lt x (half size) then pos x else pos x -ℤ pos (modulus size)

-- the exact result is a number with sign of the size
abbrev pub fits : Size → ℤ → Bool
fits size z = int_le (neg_ℤ (pos (half size))) z && int_lt z (pos (half size))

-- what of the exact result is kept
abbrev pub low : Size → ℤ → ℕ
low size z = unsigned_abs (int_rem_euclid z (pos (modulus size)))
