-- The result of each operation, lane by lane, from the values of its vector operands in the order of the row's format:
-- first (as it was before the step), second, third and fourth.
use Rattle.std.specs.Prelude.{ℕ, ◌-◌, ◌*◌, ◌%◌, ◌^◌, ◌==◌, if◌then◌else◌}
use Rattle.s390x_lanes.specs.Size.{element_bits, lane_count, wider}
use Rattle.s390x_lanes.specs.Lanes.{lane, from_lanes}
use Rattle.s390x_lanes.specs.Elements.{binary_result, unary_result, element_shifted, elements_compare, high_product, division_result, immediate}
use Rattle.s390x_lanes.specs.Places.{pair_product, packed_lane, merged_lane, unpacked_lane, byte_of_mask, bit_mask, selected_bits, permuted_byte, chosen_doubleword, shifted_lane, shift_byte_count, chosen_bits}
use Rattle.s390x_lanes.specs.declared.size.ElementSize.{ElementSize}
use Rattle.s390x_lanes.specs.declared.size.ElementSize.TheVariants.{Byte, Doubleword, Quadword}
use Rattle.s390x_lanes.specs.declared.operators.VectorOperation.{VectorOperation}
use Rattle.s390x_lanes.specs.declared.operators.VectorOperation.TheVariants.{Binary, Compare, MultiplyHigh, MultiplyPairs, Divide, Unary, ShiftElements, Pack, Merge, Unpack, Replicate, ByteMask, BitMask, Select, Permute, PermuteDoublewords, ShiftByBits, ShiftByBytes, Move, InsertImmediate, ReplicateImmediate, BitPermute, CompareElement, Blend, Evaluate}

-- the size of the result's elements
abbrev pub result_size : VectorOperation → ElementSize
result_size (Binary operator size) = size
result_size (Compare comparison size sets_code) = size
result_size (MultiplyHigh sign size) = size
result_size (MultiplyPairs sign parity size) = wider size
result_size (Divide division sign size) = size
result_size (Unary operator size) = size
result_size (ShiftElements operator size amount) = size
result_size (Pack narrowing size) = size
result_size (Merge half size) = size
result_size (Unpack sign half size) = wider size
result_size (Replicate size index) = size
result_size (ByteMask mask) = Byte
result_size (BitMask size start end) = size
result_size Select = Quadword
result_size Permute = Byte
result_size (PermuteDoublewords a b) = Doubleword
result_size (ShiftByBits operator) = Quadword
result_size (ShiftByBytes operator) = Quadword
result_size Move = Quadword
result_size (InsertImmediate size value index) = size
result_size (ReplicateImmediate size value) = size
result_size BitPermute = Quadword
result_size (CompareElement sign size) = Quadword
result_size Blend = Quadword
result_size (Evaluate table) = Quadword

-- lane i of the result. Those of Blend and Evaluate are free: 0 stands for none
abbrev pub result_lane : VectorOperation → ℕ → ℕ → ℕ → ℕ → ℕ → ℕ
result_lane (Binary operator size) first second third fourth i = binary_result operator (element_bits size) (lane (element_bits size) second i) (lane (element_bits size) third i)
result_lane (Compare comparison size sets_code) first second third fourth i =
    if elements_compare comparison (element_bits size) (lane (element_bits size) second i) (lane (element_bits size) third i) then 2 ^ element_bits size - 1 else 0
result_lane (MultiplyHigh sign size) first second third fourth i = high_product sign (element_bits size) (lane (element_bits size) second i) (lane (element_bits size) third i)
result_lane (MultiplyPairs sign parity size) first second third fourth i = pair_product sign parity (element_bits size) second third i
result_lane (Divide division sign size) first second third fourth i = division_result division sign (element_bits size) (lane (element_bits size) second i) (lane (element_bits size) third i)
result_lane (Unary operator size) first second third fourth i = unary_result operator (element_bits size) (lane (element_bits size) second i)
result_lane (ShiftElements operator size amount) first second third fourth i = shifted_lane operator (element_bits size) amount second i
result_lane (Pack narrowing size) first second third fourth i = packed_lane narrowing (element_bits size) (lane_count (wider size)) second third i
result_lane (Merge half size) first second third fourth i = merged_lane half (element_bits size) (lane_count (wider size)) second third i
result_lane (Unpack sign half size) first second third fourth i = unpacked_lane sign half (element_bits size) (lane_count (wider size)) second i
result_lane (Replicate size index) first second third fourth i = lane (element_bits size) second index
result_lane (ByteMask mask) first second third fourth i = byte_of_mask mask i
result_lane (BitMask size start end) first second third fourth i = bit_mask (element_bits size) start end
result_lane Select first second third fourth i = selected_bits second third fourth
result_lane Permute first second third fourth i = permuted_byte second third fourth i
result_lane (PermuteDoublewords a b) first second third fourth i = chosen_doubleword a b second third i
result_lane (ShiftByBits operator) first second third fourth i = element_shifted operator 128 second (third % 8)
result_lane (ShiftByBytes operator) first second third fourth i = element_shifted operator 128 second (8 * shift_byte_count third)
result_lane Move first second third fourth i = second
result_lane (InsertImmediate size value index) first second third fourth i = if i == index then immediate (element_bits size) value else lane (element_bits size) first i
result_lane (ReplicateImmediate size value) first second third fourth i = immediate (element_bits size) value
result_lane BitPermute first second third fourth i = chosen_bits second third
result_lane (CompareElement sign size) first second third fourth i = first
result_lane Blend first second third fourth i = 0
result_lane (Evaluate table) first second third fourth i = 0

-- the whole result
abbrev pub vector_result : VectorOperation → ℕ → ℕ → ℕ → ℕ → ℕ
vector_result operation first second third fourth =
    from_lanes (element_bits (result_size operation)) (lane_count (result_size operation)) (result_lane operation first second third fourth)
