-- The operators on bits.
use Rattle.std.specs.Prelude.{ℕ, zero, suc, ◌+◌, ◌-◌, ◌*◌, ◌/◌, ◌%◌, ◌^◌, ◌≤◌, if◌then◌else◌, ◌==◌, nat_lt, nat_le, bit_and, bit_or, bit_xor, count_ones}
use Rattle.std.specs.Int.{int_shr, w16, w32, w64, rotate_left, leading_zeros}
use Rattle.s390x_operations.specs.Numbers.{modulus, signed_number, low}
use Rattle.s390x_operations.specs.Signed.{code_s}
use Rattle.s390x_operations.specs.declared.size.Size.{Size}
use Rattle.s390x_operations.specs.declared.size.Size.TheVariants.{Halfword, Word, Doubleword}
use Rattle.s390x_operations.specs.declared.stop.ConditionCode.{ConditionCode}
use Rattle.s390x_operations.specs.declared.stop.ConditionCode.TheVariants.{Code0, Code1}
use Rattle.s390x_operations.specs.declared.operator.BitOperator.{BitOperator}
use Rattle.s390x_operations.specs.declared.operator.BitOperator.TheVariants.{And, Or, Xor, NotAnd, NotOr, NotXor, AndNot, OrNot}
use Rattle.s390x_lanes.specs.declared.operators.ShiftOperator.{ShiftOperator}
use Rattle.s390x_lanes.specs.declared.operators.ShiftOperator.TheVariants.{RotateLeft, ShiftLeft, ShiftRightLogical, ShiftRightArithmetic}
use Rattle.s390x_operations.specs.declared.operator.SelectedBitsOperator.{SelectedBitsOperator}
use Rattle.s390x_operations.specs.declared.operator.SelectedBitsOperator.TheVariants as Select
use Rattle.s390x_lanes.specs.declared.operators.Signedness.{Signedness}
use Rattle.s390x_lanes.specs.declared.operators.Signedness.TheVariants.{Signed, Unsigned}
use Rattle.s390x_operations.specs.declared.size.Width.{Width}
use Rattle.s390x_operations.specs.declared.size.Width.TheVariants.{Bits8, Bits16, Bits32, Bits64}
use Rattle.s390x_operations.specs.declared.operand.Pair.{Pair}

-- code Z, of logical operations (Principles of Operation, chapter 7, "General instructions"): 0 for zero, else 1
abbrev pub code_z : ℕ → ConditionCode
code_z x = if x == 0 then Code0 else Code1

-- every bit inverted
abbrev pub complement : Size → ℕ → ℕ
complement size x = modulus size - 1 - x

-- the value of an operator on the bits of two numbers of a size
abbrev pub bit_value : BitOperator → Size → ℕ → ℕ → ℕ
bit_value And size x y = bit_and x y
bit_value Or size x y = bit_or x y
bit_value Xor size x y = bit_xor x y
bit_value NotAnd size x y = complement size (bit_and x y)
bit_value NotOr size x y = complement size (bit_or x y)
bit_value NotXor size x y = complement size (bit_xor x y)
bit_value AndNot size x y = bit_and x (complement size y)
bit_value OrNot size x y = bit_or x (complement size y)

-- a number of a size, rotated to the left by k bits
abbrev pub rotate_value : Size → ℕ → ℕ → ℕ
rotate_value Halfword x k = rotate_left w16 x k
rotate_value Word x k = rotate_left w32 x k
rotate_value Doubleword x k = rotate_left w64 x k

-- a number of a size, shifted or rotated by k bits
abbrev pub shift_value : ShiftOperator → Size → ℕ → ℕ → ℕ
shift_value RotateLeft size x k = rotate_value size x k
shift_value ShiftLeft size x k = (x * 2 ^ k) % modulus size
shift_value ShiftRightLogical size x k = x / 2 ^ k
shift_value ShiftRightArithmetic size x k = low size (int_shr (signed_number size x) k)

-- the code of a shift to the right with the sign
abbrev pub shift_code : Size → ℕ → ℕ → ConditionCode
shift_code size x k = code_s size (int_shr (signed_number size x) k)

-- ones from bit start to bit end, numbered from the left, wrapping
abbrev pub selection : ℕ → ℕ → ℕ
selection start end = if nat_le start end then 2 ^ (64 - start) - 2 ^ (63 - end) else (2 ^ 64 - 2 ^ (63 - end)) + (2 ^ (64 - start) - 1)

-- what the operator makes of all bits, as if each was selected
abbrev pub combined_bits : SelectedBitsOperator → ℕ → ℕ → ℕ
combined_bits Select.Insert x y = y
combined_bits Select.And x y = bit_and x y
combined_bits Select.Or x y = bit_or x y
combined_bits Select.Xor x y = bit_xor x y

-- the combined bits that are selected, the bits of x elsewhere
abbrev pub select_value : SelectedBitsOperator → ℕ → ℕ → ℕ → ℕ
select_value op mask x y = bit_or (bit_and (combined_bits op x y) mask) (bit_and x (complement Doubleword mask))

-- code Z of the combined bits that are selected
abbrev pub select_code : SelectedBitsOperator → ℕ → ℕ → ℕ → ConditionCode
select_code op mask x y = code_z (bit_and (combined_bits op x y) mask)

-- the ones of each of the lowest n bytes
unfoldable pub ones_by_byte : ℕ → ℕ → ℕ
ones_by_byte zero x = 0
ones_by_byte (suc n) x = ones_by_byte n (x / 256) * 256 + count_ones (x % 256)

-- the lowest n bytes in reverse order, after those of a
unfoldable pub reversed_onto : ℕ → ℕ → ℕ → ℕ
reversed_onto zero x a = a
reversed_onto (suc n) x a = reversed_onto n (x / 256) (a * 256 + x % 256)

-- the lowest n bytes of a number in reverse order
abbrev pub bytes_in_reverse : ℕ → ℕ → ℕ
bytes_in_reverse n x = reversed_onto n x 0

-- how many zeros stand leftmost, and the rest without its leftmost one
abbrev pub leftmost : ℕ → Pair
leftmost x = record { high = leading_zeros w64 x; low = if x == 0 then 0 else x - 2 ^ (63 - leading_zeros w64 x) }

-- how many bits a width has
abbrev pub bits_of_width : Width → ℕ
bits_of_width Bits8 = 8
bits_of_width Bits16 = 16
bits_of_width Bits32 = 32
bits_of_width Bits64 = 64

-- how many bytes a width has
abbrev pub bytes : Width → ℕ
bytes Bits8 = 1
bytes Bits16 = 2
bytes Bits32 = 4
bytes Bits64 = 8

-- the lowest bits of a number, extended to a size with zeros or with their sign
abbrev pub extended_bits : Signedness → Width → Size → ℕ → ℕ
extended_bits Unsigned width size x = x % 2 ^ bits_of_width width
extended_bits Signed width size x = if nat_lt (x % 2 ^ bits_of_width width) (2 ^ (bits_of_width width - 1)) then x % 2 ^ bits_of_width width else x % 2 ^ bits_of_width width + (modulus size - 2 ^ bits_of_width width)

-- the size has that many bits or more
abbrev pub IsWithin : Width → Size → Type 0
IsWithin width size = 2 ^ bits_of_width width ≤ modulus size
