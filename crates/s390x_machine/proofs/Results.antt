-- The result of each vector operation has 128 bits.
use Rattle.std.proofs.Common.{◌≡◌, ℕ, ◌+◌, ◌-◌, ◌*◌, ◌/◌, ◌%◌, ◌^◌, ◌<◌, IsTrue, nat_lt, nat_le, ◌==◌, refl, sym, subst, arith, true≢false}
use Rattle.std.proofs.Math.Pow.{pow_pos}
use Rattle.s390x_lanes.specs.declared.size.ElementSize.{ElementSize}
use Rattle.s390x_lanes.specs.declared.size.ElementSize.TheVariants.{Byte, Quadword}
use Rattle.s390x_lanes.specs.declared.operators.Signedness.TheVariants as Sign
use Rattle.s390x_lanes.specs.declared.operators.VectorOperation.{VectorOperation}
use Rattle.s390x_lanes.specs.declared.operators.VectorOperation.TheVariants.{Binary, Compare, MultiplyHigh, MultiplyPairs, Divide, Unary, ShiftElements, Pack, Merge, Unpack, Replicate, ByteMask, BitMask, Select, Permute, PermuteDoublewords, ShiftByBits, ShiftByBytes, Move, InsertImmediate, ReplicateImmediate, BitPermute, CompareElement, Blend, Evaluate}
use Rattle.s390x_lanes.specs.Size.{element_bits, lane_count, wider}
use Rattle.s390x_lanes.specs.Lanes.{lane, from_lanes}
use Rattle.s390x_lanes.specs.Numbers.{element_number}
use Rattle.s390x_lanes.specs.Elements.{elements_compare, immediate}
use Rattle.s390x_lanes.specs.Places.{lane_of_pair, pair_product, first_of_half, unpacked_lane, byte_of_both, shift_byte_count, chosen_bit, chosen_bits}
use Rattle.s390x_lanes.specs.Rows.{is_operation}
use Rattle.s390x_lanes.specs.Results.{result_size, result_lane, vector_result}
use Rattle.s390x_lanes.proofs.Building.{lane_lt, build_lt, whole}
use Rattle.s390x_machine.proofs.Lanes.{wrapped_lt, choice_lt, binary_lt, unary_lt, shifted_lt, product_lt, high_product_lt, divided_lt, narrowed_lt, bit_mask_lt, selected_lt}

bits_some : (size : ElementSize) → 0 < element_bits size
bits_some Byte = omega arith
bits_some _ = omega arith

twice_bits : (size : ElementSize) → IsTrue (nat_le (element_bits size) 64) → 2 * element_bits size ≡ element_bits (wider size)
twice_bits Quadword h = absurd (true≢false (sym h))
twice_bits size h = refl

wider_lt : (size : ElementSize) (x : ℕ) → IsTrue (nat_le (element_bits size) 64) → x < 2 ^ (2 * element_bits size) → x < 2 ^ element_bits (wider size)
wider_lt size x h lt = subst (λ (w : ℕ). x < 2 ^ w) (twice_bits size h) lt

ones_below : (w : ℕ) → 2 ^ w - 1 < 2 ^ w
ones_below w = omega (arith, pow_pos w)

byte_lt : (x y k : ℕ) → byte_of_both x y k < 2 ^ 8
byte_lt x y k = choice_lt (nat_lt k 16) (lane 8 x k) (lane 8 y (k - 16)) (2 ^ 8) (lane_lt 8 x k) (lane_lt 8 y (k - 16))

bits_lt : (x y : ℕ) → chosen_bits x y < 2 ^ 128
bits_lt x y =
    let h : from_lanes 1 16 (chosen_bit x y) < 2 ^ (1 * 16) =
    build_lt 1 16 (chosen_bit x y) (λ i q. choice_lt (nat_lt (lane 8 y i) 128) (lane 1 x (lane 8 y i)) 0 (2 ^ 1) (lane_lt 1 x (lane 8 y i)) (omega arith)) in
    omega arith

result_lane_lt : (operation : VectorOperation) (a b c d i : ℕ) → IsTrue (is_operation operation) → a < 2 ^ 128 → b < 2 ^ 128 → c < 2 ^ 128 → result_lane operation a b c d i < 2 ^ element_bits (result_size operation)
result_lane_lt (Binary operator size) a b c d i h p q r =
    binary_lt operator (element_bits size) (lane (element_bits size) b i) (lane (element_bits size) c i) (bits_some size) (lane_lt (element_bits size) b i) (lane_lt (element_bits size) c i)
result_lane_lt (Compare comparison size sets_code) a b c d i h p q r =
    choice_lt (elements_compare comparison (element_bits size) (lane (element_bits size) b i) (lane (element_bits size) c i)) (2 ^ element_bits size - 1) 0 (2 ^ element_bits size) (ones_below (element_bits size)) (pow_pos (element_bits size))
result_lane_lt (MultiplyHigh sign size) a b c d i h p q r = high_product_lt sign (element_bits size) (lane (element_bits size) b i) (lane (element_bits size) c i)
result_lane_lt (MultiplyPairs sign parity size) a b c d i h p q r =
    wider_lt size (pair_product sign parity (element_bits size) b c i) h (product_lt sign (element_bits size) (lane (element_bits size) b (lane_of_pair parity i)) (lane (element_bits size) c (lane_of_pair parity i)))
result_lane_lt (Divide division sign size) a b c d i h p q r = divided_lt division sign (element_bits size) (lane (element_bits size) b i) (lane (element_bits size) c i)
result_lane_lt (Unary operator size) a b c d i h p q r = unary_lt operator (element_bits size) (lane (element_bits size) b i) (lane_lt (element_bits size) b i)
result_lane_lt (ShiftElements operator size amount) a b c d i h p q r =
    shifted_lt operator (element_bits size) (lane (element_bits size) b i) (amount % element_bits size) (lane_lt (element_bits size) b i)
result_lane_lt (Pack narrowing size) a b c d i h p q r = narrowed_lt narrowing (element_bits size) _
result_lane_lt (Merge half size) a b c d i h p q r =
    choice_lt (i % 2 == 0) (lane (element_bits size) b (i / 2 + first_of_half half (lane_count (wider size)))) (lane (element_bits size) c (i / 2 + first_of_half half (lane_count (wider size)))) (2 ^ element_bits size)
    (lane_lt (element_bits size) b (i / 2 + first_of_half half (lane_count (wider size)))) (lane_lt (element_bits size) c (i / 2 + first_of_half half (lane_count (wider size))))
result_lane_lt (Unpack sign half size) a b c d i h p q r =
    wider_lt size (unpacked_lane sign half (element_bits size) (lane_count (wider size)) b i) h
    (wrapped_lt (2 * element_bits size) (element_number sign (element_bits size) (lane (element_bits size) b (i + first_of_half half (lane_count (wider size))))))
result_lane_lt (Replicate size index) a b c d i h p q r = lane_lt (element_bits size) b index
result_lane_lt (ByteMask mask) a b c d i h p q r = choice_lt (mask / 2 ^ (15 - i) % 2 == 1) 255 0 (2 ^ 8) (omega arith) (omega arith)
result_lane_lt (BitMask size start end) a b c d i h p q r = bit_mask_lt (element_bits size) start end
result_lane_lt Select a b c d i h p q r = selected_lt b c d q r
result_lane_lt Permute a b c d i h p q r = byte_lt b c (lane 8 d i % 32)
result_lane_lt (PermuteDoublewords m n) a b c d i h p q r = choice_lt (i == 0) (lane 64 b m) (lane 64 c n) (2 ^ 64) (lane_lt 64 b m) (lane_lt 64 c n)
result_lane_lt (ShiftByBits operator) a b c d i h p q r = shifted_lt operator 128 b (c % 8) q
result_lane_lt (ShiftByBytes operator) a b c d i h p q r = shifted_lt operator 128 b (8 * shift_byte_count c) q
result_lane_lt Move a b c d i h p q r = q
result_lane_lt (InsertImmediate size value index) a b c d i h p q r =
    choice_lt (i == index) (immediate (element_bits size) value) (lane (element_bits size) a i) (2 ^ element_bits size) (wrapped_lt (element_bits size) (element_number Sign.Signed 16 value)) (lane_lt (element_bits size) a i)
result_lane_lt (ReplicateImmediate size value) a b c d i h p q r = wrapped_lt (element_bits size) (element_number Sign.Signed 16 value)
result_lane_lt BitPermute a b c d i h p q r = bits_lt b c
result_lane_lt (CompareElement sign size) a b c d i h p q r = p
result_lane_lt Blend a b c d i h p q r = pow_pos 128
result_lane_lt (Evaluate table) a b c d i h p q r = pow_pos 128

-- operands of 128 bits give a result of 128 bits
pub result_lt : (operation : VectorOperation) → IsTrue (is_operation operation) → (a b c d : ℕ) → a < 2 ^ 128 → b < 2 ^ 128 → c < 2 ^ 128 → vector_result operation a b c d < 2 ^ 128
result_lt operation h a b c d p q r =
    subst (λ (n : ℕ). vector_result operation a b c d < 2 ^ n) (whole (result_size operation))
    (build_lt (element_bits (result_size operation)) (lane_count (result_size operation)) (result_lane operation a b c d) (λ i k. result_lane_lt operation a b c d i h p q r))
