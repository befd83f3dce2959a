-- The values of operators, pairs and numbers in memory lie in their sizes.
use Rattle.std.proofs.Common.{◌≡◌, ℕ, zero, suc, ◌+◌, ◌-◌, ◌*◌, ◌/◌, ◌%◌, ◌^◌, ◌<◌, ◌≤◌, Bool, true, false, cond, nat_lt, ◌==◌, Option, None, Some, ℤ, pos, negsuc, bit_and, bit_or, refl, sym, ◌∙◌, arith, leb-true, eq-eqb, true≢false}
use Rattle.std.specs.Prelude.{bit_xor, int_div, int_rem, unsigned_abs, ◌*ℤ◌}
use Rattle.std.specs.Int.{int_shr, leading_zeros, w64}
use Rattle.std.proofs.Math.Pow.{pow_pos}
use Rattle.std.proofs.Math.Nat.{pow-succ'}
use Rattle.std.proofs.lemmas.Nat.{mod_below, shr_below, shr_le, or_lt, leading_le, trailing_le, ones_le_self}
use Rattle.s390x_lanes.specs.declared.operators.Signedness.{Signedness}
use Rattle.s390x_lanes.specs.declared.operators.Signedness.TheVariants.{Signed, Unsigned}
use Rattle.s390x_lanes.specs.declared.operators.ShiftOperator.{ShiftOperator}
use Rattle.s390x_lanes.specs.declared.operators.ShiftOperator.TheVariants.{RotateLeft, ShiftLeft, ShiftRightLogical, ShiftRightArithmetic}
use Rattle.s390x_lanes.proofs.Powers.{product_lt}
use Rattle.s390x_operations.specs.Numbers.{modulus, signed_number, fits, low}
use Rattle.s390x_operations.specs.Signed.{exact_result}
use Rattle.s390x_operations.specs.Unsigned.{wide_product, signed_division, unsigned_division, IsPairBelow}
use Rattle.s390x_operations.specs.Bits.{complement, bit_value, rotate_value, shift_value, combined_bits, select_value, ones_by_byte, leftmost, bits_of_width, extended_bits, IsWithin}
use Rattle.s390x_operations.specs.Values.{value, in_byte_order, raw, operand_value}
use Rattle.s390x_operations.specs.State.{Memory, number_at, wrapping_add64}
use Rattle.s390x_operations.specs.Effects.{with_low_part, number_in_memory}
use Rattle.s390x_operations.specs.declared.size.Size.{Size}
use Rattle.s390x_operations.specs.declared.size.Size.TheVariants.{Halfword, Word, Doubleword}
use Rattle.s390x_operations.specs.declared.size.Width.{Width}
use Rattle.s390x_operations.specs.declared.operand.Operand.{Operand}
use Rattle.s390x_operations.specs.declared.operand.Pair.{Pair}
use Rattle.s390x_operations.specs.declared.operator.Operator.{Operator}
use Rattle.s390x_operations.specs.declared.operator.Operator.TheVariants as O
use Rattle.s390x_operations.specs.declared.operator.LogicalOperator.{LogicalOperator}
use Rattle.s390x_operations.specs.declared.operator.LogicalOperator.TheVariants as Logical
use Rattle.s390x_operations.specs.declared.operator.BitOperator.{BitOperator}
use Rattle.s390x_operations.specs.declared.operator.BitOperator.TheVariants.{And, Or, Xor, NotAnd, NotOr, NotXor, AndNot, OrNot}
use Rattle.s390x_operations.specs.declared.operator.SelectedBitsOperator.{SelectedBitsOperator}
use Rattle.s390x_operations.specs.declared.operator.SelectedBitsOperator.TheVariants as Select
use Rattle.s390x_operations.proofs.Numbers.{and_below, or_below, xor_below}
use Rattle.s390x_machine.proofs.Lanes.{choice_lt}

whole_some : (size : Size) → 64 < modulus size
whole_some Halfword = omega arith
whole_some size = omega arith

mod_whole : (size : Size) (x : ℕ) → x % modulus size < modulus size
mod_whole size x = mod_below x (modulus size) (omega (arith, whole_some size))

pub low_lt : (size : Size) (z : ℤ) → low size z < modulus size
low_lt size (pos a) = mod_whole size a
low_lt size (negsuc a) = omega (arith, whole_some size)

-- ---- operators

complement_lt : (size : Size) (x : ℕ) → complement size x < modulus size
complement_lt size x = omega (arith, whole_some size)

logical_lt : (op : LogicalOperator) (size : Size) (x y : ℕ) → value (O.Logical op) size x y < modulus size
logical_lt Logical.Add size x y = mod_whole size (x + y)
logical_lt Logical.Subtract size x y = mod_whole size (x + (modulus size - y))

bits_lt : (op : BitOperator) (size : Size) (x y : ℕ) → x < modulus size → y < modulus size → bit_value op size x y < modulus size
bits_lt And size x y p q = and_below size x y p
bits_lt Or size x y p q = or_below size x y p q
bits_lt Xor size x y p q = xor_below size x y p q
bits_lt NotAnd size x y p q = complement_lt size (bit_and x y)
bits_lt NotOr size x y p q = complement_lt size (bit_or x y)
bits_lt NotXor size x y p q = complement_lt size (bit_xor x y)
bits_lt AndNot size x y p q = and_below size x (complement size y) p
bits_lt OrNot size x y p q = or_below size x (complement size y) p (complement_lt size y)

turned_lt : (w x j k : ℕ) → x < 2 ^ w → bit_or ((x * 2 ^ j) % 2 ^ w) (x / 2 ^ k) < 2 ^ w
turned_lt w x j k h = or_lt w ((x * 2 ^ j) % 2 ^ w) (x / 2 ^ k) (mod_below (x * 2 ^ j) (2 ^ w) (pow_pos w)) (omega (arith, shr_le x k))

rotated_lt : (size : Size) (x k : ℕ) → x < modulus size → rotate_value size x k < modulus size
rotated_lt Halfword x k h = turned_lt 16 x (k % 16) ((16 - k % 16) % 16) h
rotated_lt Word x k h = turned_lt 32 x (k % 32) ((32 - k % 32) % 32) h
rotated_lt Doubleword x k h = turned_lt 64 x (k % 64) ((64 - k % 64) % 64) h

shifted_lt : (op : ShiftOperator) (size : Size) (x k : ℕ) → x < modulus size → shift_value op size x k < modulus size
shifted_lt RotateLeft size x k h = rotated_lt size x k h
shifted_lt ShiftLeft size x k h = mod_whole size (x * 2 ^ k)
shifted_lt ShiftRightLogical size x k h = omega (arith, shr_le x k)
shifted_lt ShiftRightArithmetic size x k h = low_lt size (int_shr (signed_number size x) k)

combined_lt : (op : SelectedBitsOperator) (size : Size) (x y : ℕ) → x < modulus size → y < modulus size → combined_bits op x y < modulus size
combined_lt Select.Insert size x y p q = q
combined_lt Select.And size x y p q = and_below size x y p
combined_lt Select.Or size x y p q = or_below size x y p q
combined_lt Select.Xor size x y p q = xor_below size x y p q

select_lt : (op : SelectedBitsOperator) (mask : ℕ) (size : Size) (x y : ℕ) → x < modulus size → y < modulus size → select_value op mask x y < modulus size
select_lt op mask size x y p q =
    or_below size (bit_and (combined_bits op x y) mask) (bit_and x (complement Doubleword mask)) (and_below size (combined_bits op x y) mask (combined_lt op size x y p q)) (and_below size x (complement Doubleword mask) p)

ones_by_byte_le : (n x : ℕ) → ones_by_byte n x ≤ x
unfolding ones_by_byte
ones_by_byte_le zero x = omega arith
ones_by_byte_le (suc n) x = let h = ones_by_byte_le n (x / 256) in let k = ones_le_self (x % 256) in omega arith

pub value_lt : (operator : Operator) (size : Size) (x y : ℕ) → x < modulus size → y < modulus size → value operator size x y < modulus size
value_lt (O.Signed op) size x y p q = low_lt size (exact_result op (signed_number size x) (signed_number size y))
value_lt (O.Logical op) size x y p q = logical_lt op size x y
value_lt (O.Bit op) size x y p q = bits_lt op size x y p q
value_lt (O.Shift op) size x y p q = shifted_lt op size x (y % 64) p
value_lt (O.SelectedBits op mask) size x y p q = select_lt op mask size x y p q
value_lt O.Move size x y p q = q
value_lt O.PopulationCountByByte size x y p q = omega (arith, ones_by_byte_le 8 y)
value_lt O.PopulationCount size x y p q = omega (arith, ones_le_self y)
value_lt O.LeadingZeros size x y p q = omega (arith, leading_le 64 y, whole_some size)
value_lt O.TrailingZeros size x y p q = omega (arith, trailing_le 64 y, whole_some size)

-- ---- operands

low_bits_lt : (width : Width) (size : Size) (x : ℕ) → IsWithin width size → x % 2 ^ bits_of_width width < modulus size
low_bits_lt width size x h = omega (arith, mod_below x (2 ^ bits_of_width width) (pow_pos (bits_of_width width)))

high_bits_lt : (width : Width) (size : Size) (x : ℕ) → IsWithin width size → x % 2 ^ bits_of_width width + (modulus size - 2 ^ bits_of_width width) < modulus size
high_bits_lt width size x h = omega (arith, mod_below x (2 ^ bits_of_width width) (pow_pos (bits_of_width width)))

extended_lt : (sign : Signedness) (width : Width) (size : Size) (x : ℕ) → IsWithin width size → extended_bits sign width size x < modulus size
extended_lt Unsigned width size x h = low_bits_lt width size x h
extended_lt Signed width size x h =
    choice_lt (nat_lt (x % 2 ^ bits_of_width width) (2 ^ (bits_of_width width - 1))) (x % 2 ^ bits_of_width width) (x % 2 ^ bits_of_width width + (modulus size - 2 ^ bits_of_width width)) (modulus size)
    (low_bits_lt width size x h) (high_bits_lt width size x h)

pub taken_lt : (size : Size) (second : Operand) (m : Memory) → IsWithin second.width size → operand_value size second m < modulus size
taken_lt size second m h = extended_lt second.sign second.width size (in_byte_order second.reversed second.width (raw second.source second.width m)) h

-- ---- numbers in memory

pub number_lt : (f : ℕ → ℕ) (a n : ℕ) → ((i : ℕ) → f i < 256) → number_at f a n < 256 ^ n
number_lt f a zero h = omega arith
number_lt f a (suc n) h = omega (arith, number_lt f a n h, h (wrapping_add64 a n), pow-succ' 256 n)

pub found_lt : (size : Size) (m : Memory) (a : ℕ) → ((i : ℕ) → m.get i < 256) → number_in_memory size m a < modulus size
found_lt Halfword m a h = number_lt m.get a 2 h
found_lt Word m a h = number_lt m.get a 4 h
found_lt Doubleword m a h = number_lt m.get a 8 h

-- ---- parts of registers, and pairs

pub merged_lt : (size : Size) (old x : ℕ) → old < 2 ^ 64 → x < modulus size → with_low_part size old x < 2 ^ 64
merged_lt Halfword old x h k = omega arith
merged_lt Word old x h k = omega arith
merged_lt Doubleword old x h k = k

pub product_below : (sign : Signedness) (x y : ℕ) → x < 2 ^ 64 → y < 2 ^ 64 → IsPairBelow Doubleword (Some (wide_product sign x y))
product_below Signed x y p q = (low_lt Doubleword (int_shr (signed_number Doubleword x *ℤ signed_number Doubleword y) 64), low_lt Doubleword (signed_number Doubleword x *ℤ signed_number Doubleword y))
product_below Unsigned x y p q = (shr_below (x * y) 64 64 (product_lt 64 x y p q), mod_whole Doubleword (x * y))

pub leftmost_below : (x : ℕ) → x < 2 ^ 64 → IsPairBelow Doubleword (Some (leftmost x))
leftmost_below x h = (omega (arith, leading_le 64 x), choice_lt (x == 0) 0 (x - 2 ^ (63 - leading_zeros w64 x)) (2 ^ 64) (pow_pos 64) (omega arith))

either_pair : (size : Size) (b : Bool) (p q : Option Pair) → IsPairBelow size p → IsPairBelow size q → IsPairBelow size (cond b p q)
either_pair size true p q h k = h
either_pair size false p q h k = k

pub signed_below : (x y : ℤ) → IsPairBelow Doubleword (signed_division x y)
signed_below x y =
    let p : Pair = record { high = low Doubleword (int_rem x y); low = low Doubleword (int_div x y) } in
    either_pair Doubleword (unsigned_abs y == 0) None (cond (fits Doubleword (int_div x y)) (Some p) None) tt
    (either_pair Doubleword (fits Doubleword (int_div x y)) (Some p) None (low_lt Doubleword (int_rem x y), low_lt Doubleword (int_div x y)) tt)

some_left : (y : ℕ) → (y == 0) ≡ false → 0 < y
some_left zero e = absurd (true≢false (sym (eq-eqb 0 0 refl) ∙ e))
some_left (suc y) e = omega arith

pub unsigned_below : (size : Size) (n y : ℕ) → y < modulus size → IsPairBelow size (unsigned_division size n y)
unsigned_below size n y h = by_zero (y == 0) refl
  where
    by_fit : 0 < y → (b : Bool) → nat_lt (n / y) (modulus size) ≡ b → IsPairBelow size (cond b (Some (record { high = n % y; low = n / y })) None)
    by_fit some true e = (omega (arith, mod_below n y some), leb-true (suc (n / y)) (modulus size) e)
    by_fit some false e = tt

    by_zero : (b : Bool) → (y == 0) ≡ b → IsPairBelow size (cond b None (cond (nat_lt (n / y) (modulus size)) (Some (record { high = n % y; low = n / y })) None))
    by_zero true e = tt
    by_zero false e = by_fit (some_left y e) (nat_lt (n / y) (modulus size)) refl
