-- One lane of the rows that move lanes, bytes and bits to other places. x, y and z are whole registers.
-- Source: z/Architecture Principles of Operation, vector support instructions.
use Rattle.std.specs.Prelude.{ℕ, ◌+◌, ◌-◌, ◌*◌, ◌/◌, ◌%◌, ◌^◌, nat_lt, nat_le, ◌==◌, bit_and, bit_or, if◌then◌else◌}
use Rattle.s390x_lanes.specs.Lanes.{lane, from_lanes}
use Rattle.s390x_lanes.specs.Elements.{product, narrowed_element, element_widened, element_shifted, element_complement}
use Rattle.s390x_lanes.specs.declared.operators.Signedness.{Signedness}
use Rattle.s390x_lanes.specs.declared.operators.ShiftOperator.{ShiftOperator}
use Rattle.s390x_lanes.specs.declared.operators.Narrowing.{Narrowing}
use Rattle.s390x_lanes.specs.declared.operators.Parity.{Parity}
use Rattle.s390x_lanes.specs.declared.operators.Parity.TheVariants.{Even, Odd}
use Rattle.s390x_lanes.specs.declared.operators.Half.{Half}
use Rattle.s390x_lanes.specs.declared.operators.Half.TheVariants.{High, Low}

-- the even or the odd lane of pair i
abbrev pub lane_of_pair : Parity → ℕ → ℕ
lane_of_pair Even i = 2 * i
lane_of_pair Odd i = 2 * i + 1

-- the first lane of the left or the right half of 2 * n lanes
abbrev pub first_of_half : Half → ℕ → ℕ
first_of_half High n = 0
first_of_half Low n = n

-- the whole product of the even or the odd lanes of pair i
abbrev pub pair_product : Signedness → Parity → ℕ → ℕ → ℕ → ℕ → ℕ
pair_product sign parity w x y i = product sign w (lane w x (lane_of_pair parity i)) (lane w y (lane_of_pair parity i))

-- the n lanes of 2 * w bits of x, then those of y, each in w bits
abbrev pub packed_lane : Narrowing → ℕ → ℕ → ℕ → ℕ → ℕ → ℕ
packed_lane narrowing w n x y i = narrowed_element narrowing w (if nat_lt i n then lane (2 * w) x i else lane (2 * w) y (i - n))

-- the left or the right half of 2 * n lanes, alternating x and y
abbrev pub merged_lane : Half → ℕ → ℕ → ℕ → ℕ → ℕ → ℕ
merged_lane half w n x y i = if i % 2 == 0 then lane w x (i / 2 + first_of_half half n) else lane w y (i / 2 + first_of_half half n)

-- the left or the right half of 2 * n lanes, each in 2 * w bits
abbrev pub unpacked_lane : Signedness → Half → ℕ → ℕ → ℕ → ℕ → ℕ
unpacked_lane sign half w n x i = element_widened sign w (lane w x (i + first_of_half half n))

-- byte i is ones where bit i of the 16-bit mask is one, bits numbered from the left
abbrev pub byte_of_mask : ℕ → ℕ → ℕ
byte_of_mask mask i = if mask / 2 ^ (15 - i) % 2 == 1 then 255 else 0

-- ones from bit a to bit b, numbered from the left; where a is above b, ones from a to the end and from 0 to b
abbrev pub bit_mask : ℕ → ℕ → ℕ → ℕ
bit_mask w a b =
    if nat_le a b then 2 ^ (w - a) - 2 ^ (w - b - 1)
    else (2 ^ w - 2 ^ (w - b - 1)) + (2 ^ (w - a) - 1)

-- the bits of x where z has ones, those of y elsewhere
abbrev pub selected_bits : ℕ → ℕ → ℕ → ℕ
selected_bits x y z = bit_or (bit_and x z) (bit_and y (element_complement 128 z))

-- byte k of x followed by y
abbrev pub byte_of_both : ℕ → ℕ → ℕ → ℕ
byte_of_both x y k = if nat_lt k 16 then lane 8 x k else lane 8 y (k - 16)

-- byte i of a permutation: the low five bits of byte i of z choose
abbrev pub permuted_byte : ℕ → ℕ → ℕ → ℕ → ℕ
permuted_byte x y z i = byte_of_both x y (lane 8 z i % 32)

-- doubleword a of x, then doubleword b of y
abbrev pub chosen_doubleword : ℕ → ℕ → ℕ → ℕ → ℕ → ℕ
chosen_doubleword a b x y i = if i == 0 then lane 64 x a else lane 64 y b

-- lane i, shifted by the amount modulo the lane's width
abbrev pub shifted_lane : ShiftOperator → ℕ → ℕ → ℕ → ℕ → ℕ
shifted_lane operator w k x i = element_shifted operator w (lane w x i) (k % w)

-- the count of a shift by bytes: bits 1 to 4 of byte 7
abbrev pub shift_byte_count : ℕ → ℕ
shift_byte_count y = lane 8 y 7 / 8 % 16

-- the bit of x whose number is byte i of y; 0 for a number of 128 and above
abbrev pub chosen_bit : ℕ → ℕ → ℕ → ℕ
chosen_bit x y i = if nat_lt (lane 8 y i) 128 then lane 1 x (lane 8 y i) else 0

-- the 16 bits so chosen, at bits 48 to 63 of the result
abbrev pub chosen_bits : ℕ → ℕ → ℕ
chosen_bits x y = from_lanes 1 16 (chosen_bit x y) * 2 ^ 64
