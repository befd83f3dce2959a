-- What each operator makes of the elements at one place, for elements of w bits.
-- Source: z/Architecture Principles of Operation, vector integer instructions.
use Rattle.std.specs.Prelude.{ℕ, ◌+◌, ◌-◌, ◌*◌, ◌/◌, ◌%◌, ◌^◌, Bool, pos, neg_ℤ, ◌+ℤ◌, ◌-ℤ◌, ◌*ℤ◌, nat_lt, int_lt, ◌==◌, bit_and, bit_or, bit_xor, if◌then◌else◌, count_ones}
use Rattle.std.specs.Int.{int_div_euclid}
use Rattle.std.specs.Int.RustNames.{unsigned_abs, int_div, int_rem}
use lib.Count.{count_leading_zeros, count_trailing_zeros}
use Rattle.s390x_lanes.specs.Numbers.{element_number, wrapped_element, saturated_value, greatest}
use Rattle.s390x_lanes.specs.declared.operators.Signedness.{Signedness}
use Rattle.s390x_lanes.specs.declared.operators.Signedness.TheVariants.{Signed}
use Rattle.s390x_lanes.specs.declared.operators.BinaryOperator.{BinaryOperator}
use Rattle.s390x_lanes.specs.declared.operators.BinaryOperator.TheVariants.{Add, Sub, Mul, AddCarryOut, SubBorrowOut, Max, Min, Average, And, Or, Xor, NotAnd, NotOr, NotXor, AndNot, OrNot}
use Rattle.s390x_lanes.specs.declared.operators.UnaryOperator.{UnaryOperator}
use Rattle.s390x_lanes.specs.declared.operators.UnaryOperator.TheVariants.{Abs, Neg, LeadingZeros, TrailingZeros, PopulationCount}
use Rattle.s390x_lanes.specs.declared.operators.ShiftOperator.{ShiftOperator}
use Rattle.s390x_lanes.specs.declared.operators.ShiftOperator.TheVariants.{RotateLeft, ShiftLeft, ShiftRightLogical, ShiftRightArithmetic}
use Rattle.s390x_lanes.specs.declared.operators.Comparison.{Comparison}
use Rattle.s390x_lanes.specs.declared.operators.Comparison.TheVariants.{Equal, High}
use Rattle.s390x_lanes.specs.declared.operators.Division.{Division}
use Rattle.s390x_lanes.specs.declared.operators.Division.TheVariants.{Quotient, Remainder}
use Rattle.s390x_lanes.specs.declared.operators.Narrowing.{Narrowing}
use Rattle.s390x_lanes.specs.declared.operators.Narrowing.TheVariants.{Modulo, Saturate}

-- every bit inverted
abbrev pub element_complement : ℕ → ℕ → ℕ
element_complement w x = 2 ^ w - 1 - x

-- x holds a lower number than y
abbrev pub is_lower : Signedness → ℕ → ℕ → ℕ → Bool
is_lower sign w x y = int_lt (element_number sign w x) (element_number sign w y)

-- half the sum and one more, rounded down: the average, rounded up
abbrev pub average : Signedness → ℕ → ℕ → ℕ → ℕ
average sign w x y = wrapped_element w (int_div_euclid (element_number sign w x +ℤ element_number sign w y +ℤ pos 1) (pos 2))

-- two elements; SubBorrowOut is 1 where nothing is borrowed
abbrev pub binary_result : BinaryOperator → ℕ → ℕ → ℕ → ℕ
binary_result Add w x y = wrapped_element w (pos x +ℤ pos y)
binary_result Sub w x y = wrapped_element w (pos x -ℤ pos y)
binary_result Mul w x y = wrapped_element w (pos x *ℤ pos y)
binary_result AddCarryOut w x y = (x + y) / 2 ^ w
binary_result SubBorrowOut w x y = if nat_lt x y then 0 else 1
binary_result (Max sign) w x y = if is_lower sign w x y then y else x
binary_result (Min sign) w x y = if is_lower sign w x y then x else y
binary_result (Average sign) w x y = average sign w x y
binary_result And w x y = bit_and x y
binary_result Or w x y = bit_or x y
binary_result Xor w x y = bit_xor x y
binary_result NotAnd w x y = element_complement w (bit_and x y)
binary_result NotOr w x y = element_complement w (bit_or x y)
binary_result NotXor w x y = element_complement w (bit_xor x y)
binary_result AndNot w x y = bit_and x (element_complement w y)
binary_result OrNot w x y = bit_or x (element_complement w y)

-- one element; a count of zeros is w for the element 0
abbrev pub unary_result : UnaryOperator → ℕ → ℕ → ℕ
unary_result Abs w x = wrapped_element w (pos (unsigned_abs (element_number Signed w x)))
unary_result Neg w x = wrapped_element w (neg_ℤ (element_number Signed w x))
unary_result LeadingZeros w x = count_leading_zeros w x
unary_result TrailingZeros w x = count_trailing_zeros w x
unary_result PopulationCount w x = count_ones x

-- a shift by an amount below w
abbrev pub element_shifted : ShiftOperator → ℕ → ℕ → ℕ → ℕ
element_shifted RotateLeft w x k = bit_or (x * 2 ^ k % 2 ^ w) (x / 2 ^ (w - k))
element_shifted ShiftLeft w x k = x * 2 ^ k % 2 ^ w
element_shifted ShiftRightLogical w x k = x / 2 ^ k
element_shifted ShiftRightArithmetic w x k = wrapped_element w (int_div_euclid (element_number Signed w x) (pos (2 ^ k)))

-- a comparison holds
abbrev pub elements_compare : Comparison → ℕ → ℕ → ℕ → Bool
elements_compare Equal w x y = x == y
elements_compare (High sign) w x y = is_lower sign w y x

-- the whole product, of 2 * w bits
abbrev pub product : Signedness → ℕ → ℕ → ℕ → ℕ
product sign w x y = wrapped_element (2 * w) (element_number sign w x *ℤ element_number sign w y)

-- its left half
abbrev pub high_product : Signedness → ℕ → ℕ → ℕ → ℕ
high_product sign w x y = product sign w x y / 2 ^ w

-- a quotient, rounded towards zero, or its remainder; with a divisor 0 the row stops
abbrev pub division_result : Division → Signedness → ℕ → ℕ → ℕ → ℕ
division_result Quotient sign w x y = if y == 0 then 0 else wrapped_element w (int_div (element_number sign w x) (element_number sign w y))
division_result Remainder sign w x y = if y == 0 then 0 else wrapped_element w (int_rem (element_number sign w x) (element_number sign w y))

-- the quotient passes the greatest number of w bits
abbrev pub quotient_overflows : Signedness → ℕ → ℕ → ℕ → Bool
quotient_overflows sign w x y = int_lt (greatest sign w) (int_div (element_number sign w x) (element_number sign w y))

-- an element of 2 * w bits in w bits
abbrev pub narrowed_element : Narrowing → ℕ → ℕ → ℕ
narrowed_element Modulo w x = x % 2 ^ w
narrowed_element (Saturate sign) w x = wrapped_element w (saturated_value sign w (element_number sign (2 * w) x))

-- an element of w bits in 2 * w bits
abbrev pub element_widened : Signedness → ℕ → ℕ → ℕ
element_widened sign w x = wrapped_element (2 * w) (element_number sign w x)

-- a 16-bit immediate, sign-extended or cut to w bits
abbrev pub immediate : ℕ → ℕ → ℕ
immediate w k = wrapped_element w (element_number Signed 16 k)
