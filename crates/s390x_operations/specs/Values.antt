-- The values and condition codes of operators, and the values of operands (Principles of Operation, chapter 7, "General instructions").
use Rattle.std.specs.Prelude.{ℕ, ◌%◌, Bool, if◌then◌else◌, count_ones}
use Rattle.std.specs.Int.{w64, leading_zeros, trailing_zeros}
use Rattle.s390x_operations.specs.Signed.{signed_value, signed_code}
use Rattle.s390x_operations.specs.Unsigned.{logical_value, logical_code}
use Rattle.s390x_operations.specs.Bits.{code_z, bit_value, shift_value, shift_code, select_value, select_code, ones_by_byte, bytes_in_reverse, bytes, extended_bits}
use Rattle.s390x_operations.specs.State.{Memory, number_at}
use Rattle.s390x_operations.specs.declared.size.Size.{Size}
use Rattle.s390x_operations.specs.declared.size.Size.TheVariants.{Halfword, Word, Doubleword}
use Rattle.s390x_operations.specs.declared.size.Width.{Width}
use Rattle.s390x_operations.specs.declared.size.Width.TheVariants.{Bits16, Bits32, Bits64}
use Rattle.s390x_operations.specs.declared.stop.ConditionCode.{ConditionCode}
use Rattle.s390x_operations.specs.declared.stop.ConditionCode.TheVariants.{Code0}
use Rattle.s390x_operations.specs.declared.operand.Source.{Source}
use Rattle.s390x_operations.specs.declared.operand.Source.TheVariants.{Value, Memory as InMemory, AlignedMemory}
use Rattle.s390x_operations.specs.declared.operand.Operand.{Operand}
use Rattle.s390x_operations.specs.declared.operator.Operator.{Operator}
use Rattle.s390x_operations.specs.declared.operator.Operator.TheVariants.{Signed, Logical, Bit, Shift, SelectedBits, Move, PopulationCountByByte, PopulationCount, LeadingZeros, TrailingZeros}

-- the value of an operator on two numbers of a size
abbrev pub value : Operator → Size → ℕ → ℕ → ℕ
value (Signed op) size x y = signed_value op size x y
value (Logical op) size x y = logical_value op size x y
value (Bit op) size x y = bit_value op size x y
value (Shift op) size x y = shift_value op size x (y % 64)
value (SelectedBits op mask) size x y = select_value op mask x y
value Move size x y = y
value PopulationCountByByte size x y = ones_by_byte 8 y
value PopulationCount size x y = count_ones y
value LeadingZeros size x y = leading_zeros w64 y
value TrailingZeros size x y = trailing_zeros w64 y

-- its condition code; moves and counts of zeros have none of their own
abbrev pub code_of_value : Operator → Size → ℕ → ℕ → ConditionCode
code_of_value (Signed op) size x y = signed_code op size x y
code_of_value (Logical op) size x y = logical_code op size x y
code_of_value (Bit op) size x y = code_z (bit_value op size x y)
code_of_value (Shift op) size x y = shift_code size x (y % 64)
code_of_value (SelectedBits op mask) size x y = select_code op mask x y
code_of_value Move size x y = Code0
code_of_value PopulationCountByByte size x y = code_z y
code_of_value PopulationCount size x y = code_z y
code_of_value LeadingZeros size x y = Code0
code_of_value TrailingZeros size x y = Code0

-- the bits of an operand
abbrev pub raw : Source → Width → Memory → ℕ
raw (Value x) width m = x
raw (InMemory a) width m = number_at m.get a (bytes width)
raw (AlignedMemory a) width m = number_at m.get a (bytes width)

-- an operand's bits, its bytes in reverse order where the flag says so
abbrev pub in_byte_order : Bool → Width → ℕ → ℕ
in_byte_order backwards width x = if backwards then bytes_in_reverse (bytes width) x else x

-- an operand's value at a size
abbrev pub operand_value : Size → Operand → Memory → ℕ
operand_value size y m = extended_bits y.sign y.width size (in_byte_order y.reversed y.width (raw y.source y.width m))

-- the width of a whole number of a size
abbrev pub width_of : Size → Width
width_of Halfword = Bits16
width_of Word = Bits32
width_of Doubleword = Bits64
