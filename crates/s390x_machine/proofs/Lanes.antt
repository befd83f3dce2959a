-- The bits of what the operators make of elements.
use Rattle.std.proofs.Common.{ℕ, ◌+◌, ◌-◌, ◌*◌, ◌/◌, ◌%◌, ◌^◌, ◌<◌, ◌≤◌, Bool, true, false, cond, arith, ℤ, pos, negsuc, bit_and, bit_or, bit_xor, nat_lt, ◌==◌, inl, inr}
use Rattle.std.specs.Int.{int_div_euclid}
use Rattle.std.specs.Int.Bits.{and_lt}
use Rattle.std.specs.Int.RustNames.{int_div, int_rem, unsigned_abs}
use lib.IntN.{◌*ℤ◌, ◌+ℤ◌, ◌-ℤ◌, neg_ℤ}
use Rattle.std.proofs.Math.Pow.{pow_pos, pow-add}
use Rattle.std.proofs.lemmas.Nat.{mod_below, shr_below, shr_le, or_lt, xor_lt, and_le_l, leading_le, trailing_le, ones_le_self}
use Rattle.std.proofs.lemmas.Bool.{cases_lt}
use Rattle.std.proofs.lemmas.Bool.Decides.{nat_tests}
use Rattle.s390x_lanes.specs.declared.operators.Signedness.{Signedness}
use Rattle.s390x_lanes.specs.declared.operators.Signedness.TheVariants.{Signed}
use Rattle.s390x_lanes.specs.declared.operators.BinaryOperator.{BinaryOperator}
use Rattle.s390x_lanes.specs.declared.operators.BinaryOperator.TheVariants.{Add, Sub, Mul, AddCarryOut, SubBorrowOut, Max, Min, Average, And, Or, Xor, NotAnd, NotOr, NotXor, AndNot, OrNot}
use Rattle.s390x_lanes.specs.declared.operators.UnaryOperator.{UnaryOperator}
use Rattle.s390x_lanes.specs.declared.operators.UnaryOperator.TheVariants.{Abs, Neg, LeadingZeros, TrailingZeros, PopulationCount}
use Rattle.s390x_lanes.specs.declared.operators.ShiftOperator.{ShiftOperator}
use Rattle.s390x_lanes.specs.declared.operators.ShiftOperator.TheVariants.{RotateLeft, ShiftLeft, ShiftRightLogical, ShiftRightArithmetic}
use Rattle.s390x_lanes.specs.declared.operators.Division.{Division}
use Rattle.s390x_lanes.specs.declared.operators.Division.TheVariants.{Quotient, Remainder}
use Rattle.s390x_lanes.specs.declared.operators.Narrowing.{Narrowing}
use Rattle.s390x_lanes.specs.declared.operators.Narrowing.TheVariants.{Modulo, Saturate}
use Rattle.s390x_lanes.specs.Numbers.{element_number, wrapped_element, saturated_value}
use Rattle.s390x_lanes.specs.Elements.{element_complement, is_lower, binary_result, unary_result, element_shifted, product, high_product, division_result, narrowed_element}
use Rattle.s390x_lanes.specs.Places.{bit_mask, selected_bits}
use Rattle.s390x_lanes.proofs.Powers.{pow_le, high_lt}
use Rattle.s390x_lanes.proofs.Counting.{width_lt}

pub wrapped_lt : (w : ℕ) (z : ℤ) → wrapped_element w z < 2 ^ w
wrapped_lt w (pos a) = mod_below a (2 ^ w) (pow_pos w)
wrapped_lt w (negsuc a) = omega (arith, pow_pos w)

-- one of two numbers
pub choice_lt : (b : Bool) (m n k : ℕ) → m < k → n < k → cond b m n < k
choice_lt true m n k p q = p
choice_lt false m n k p q = q

complement_lt : (w x : ℕ) → element_complement w x < 2 ^ w
complement_lt w x = omega (arith, pow_pos w)

carry_lt : (w x y : ℕ) → 0 < w → x < 2 ^ w → y < 2 ^ w → (x + y) / 2 ^ w < 2 ^ w
carry_lt w x y p hx hy =
    let s : x + y < 2 ^ (1 + w) = omega (arith, pow-add 2 1 w) in
    omega (arith, shr_below (x + y) 1 w s, pow_le 1 w p)

pub one_lt : (w : ℕ) → 0 < w → 1 < 2 ^ w
one_lt w p = omega (arith, pow_le 1 w p)

pub binary_lt : (operator : BinaryOperator) (w x y : ℕ) → 0 < w → x < 2 ^ w → y < 2 ^ w → binary_result operator w x y < 2 ^ w
binary_lt Add w x y p hx hy = wrapped_lt w (pos x +ℤ pos y)
binary_lt Sub w x y p hx hy = wrapped_lt w (pos x -ℤ pos y)
binary_lt Mul w x y p hx hy = wrapped_lt w (pos x *ℤ pos y)
binary_lt AddCarryOut w x y p hx hy = carry_lt w x y p hx hy
binary_lt SubBorrowOut w x y p hx hy = choice_lt (nat_lt x y) 0 1 (2 ^ w) (pow_pos w) (one_lt w p)
binary_lt (Max sign) w x y p hx hy = choice_lt (is_lower sign w x y) y x (2 ^ w) hy hx
binary_lt (Min sign) w x y p hx hy = choice_lt (is_lower sign w x y) x y (2 ^ w) hx hy
binary_lt (Average sign) w x y p hx hy = wrapped_lt w (int_div_euclid (element_number sign w x +ℤ element_number sign w y +ℤ pos 1) (pos 2))
binary_lt And w x y p hx hy = and_lt w x y hx hy
binary_lt Or w x y p hx hy = or_lt w x y hx hy
binary_lt Xor w x y p hx hy = xor_lt w x y hx hy
binary_lt NotAnd w x y p hx hy = complement_lt w (bit_and x y)
binary_lt NotOr w x y p hx hy = complement_lt w (bit_or x y)
binary_lt NotXor w x y p hx hy = complement_lt w (bit_xor x y)
binary_lt AndNot w x y p hx hy = and_lt w x (element_complement w y) hx (complement_lt w y)
binary_lt OrNot w x y p hx hy = or_lt w x (element_complement w y) hx (complement_lt w y)

pub unary_lt : (operator : UnaryOperator) (w x : ℕ) → x < 2 ^ w → unary_result operator w x < 2 ^ w
unary_lt Abs w x h = wrapped_lt w (pos (unsigned_abs (element_number Signed w x)))
unary_lt Neg w x h = wrapped_lt w (neg_ℤ (element_number Signed w x))
unary_lt LeadingZeros w x h = omega (arith, leading_le w x, width_lt w)
unary_lt TrailingZeros w x h = omega (arith, trailing_le w x, width_lt w)
unary_lt PopulationCount w x h = omega (arith, ones_le_self x)

pub shifted_lt : (operator : ShiftOperator) (w x k : ℕ) → x < 2 ^ w → element_shifted operator w x k < 2 ^ w
shifted_lt RotateLeft w x k h = or_lt w (x * 2 ^ k % 2 ^ w) (x / 2 ^ (w - k)) (mod_below (x * 2 ^ k) (2 ^ w) (pow_pos w)) (omega (arith, shr_le x (w - k)))
shifted_lt ShiftLeft w x k h = mod_below (x * 2 ^ k) (2 ^ w) (pow_pos w)
shifted_lt ShiftRightLogical w x k h = omega (arith, shr_le x k)
shifted_lt ShiftRightArithmetic w x k h = wrapped_lt w (int_div_euclid (element_number Signed w x) (pos (2 ^ k)))

pub product_lt : (sign : Signedness) (w x y : ℕ) → product sign w x y < 2 ^ (2 * w)
product_lt sign w x y = wrapped_lt (2 * w) (element_number sign w x *ℤ element_number sign w y)

pub high_product_lt : (sign : Signedness) (w x y : ℕ) → high_product sign w x y < 2 ^ w
high_product_lt sign w x y = high_lt w (product sign w x y) (product_lt sign w x y)

pub divided_lt : (division : Division) (sign : Signedness) (w x y : ℕ) → division_result division sign w x y < 2 ^ w
divided_lt Quotient sign w x y = choice_lt (y == 0) 0 (wrapped_element w (int_div (element_number sign w x) (element_number sign w y))) (2 ^ w) (pow_pos w) (wrapped_lt w (int_div (element_number sign w x) (element_number sign w y)))
divided_lt Remainder sign w x y = choice_lt (y == 0) 0 (wrapped_element w (int_rem (element_number sign w x) (element_number sign w y))) (2 ^ w) (pow_pos w) (wrapped_lt w (int_rem (element_number sign w x) (element_number sign w y)))

pub narrowed_lt : (narrowing : Narrowing) (w x : ℕ) → narrowed_element narrowing w x < 2 ^ w
narrowed_lt Modulo w x = mod_below x (2 ^ w) (pow_pos w)
narrowed_lt (Saturate sign) w x = wrapped_lt w (saturated_value sign w (element_number sign (2 * w) x))

-- ---- ones from bit a to bit b

ones_lt : (w a b : ℕ) → 2 ^ (w - a) - 2 ^ (w - b - 1) < 2 ^ w
ones_lt w a b = omega (arith, pow_le (w - a) w (omega arith), pow_pos (w - b - 1), pow_pos w)

wrapping_ones_lt : (w a b : ℕ) → b < a → (2 ^ w - 2 ^ (w - b - 1)) + (2 ^ (w - a) - 1) < 2 ^ w
wrapping_ones_lt w a b h = omega (arith, pow_le (w - a) (w - b - 1) (omega arith), pow_pos (w - a), pow_le (w - b - 1) w (omega arith))

rising_lt : (w a b : ℕ) → a ≤ b → 2 ^ (w - a) - 2 ^ (w - b - 1) < 2 ^ w → bit_mask w a b < 2 ^ w
rising_lt w a b h g = grind (arith, nat_tests)

falling_lt : (w a b : ℕ) → b < a → (2 ^ w - 2 ^ (w - b - 1)) + (2 ^ (w - a) - 1) < 2 ^ w → bit_mask w a b < 2 ^ w
falling_lt w a b h g = grind (arith, nat_tests)

pub bit_mask_lt : (w a b : ℕ) → bit_mask w a b < 2 ^ w
bit_mask_lt w a b = elim (cases_lt b a) [
  | inl h ↦ falling_lt w a b h (wrapping_ones_lt w a b h)
  | inr h ↦ rising_lt w a b h (ones_lt w a b)
]

-- the bits of one number or another are those of 128 bits
pub selected_lt : (x y z : ℕ) → x < 2 ^ 128 → y < 2 ^ 128 → selected_bits x y z < 2 ^ 128
selected_lt x y z hx hy =
    or_lt 128 (bit_and x z) (bit_and y (element_complement 128 z)) (omega (arith, and_le_l x z)) (omega (arith, and_le_l y (element_complement 128 z)))
