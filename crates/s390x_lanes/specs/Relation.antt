-- The relation of an operation: from its operands' values to the allowed results and condition codes, and where it may stop.
-- A result that an operation leaves free is any value of 128 bits.
use Rattle.std.specs.Prelude.{◌≡◌, ℕ, ◌%◌, ◌^◌, ◌<◌, Bool, true, false, ◌==◌, ◌||◌, not, Option, None, Some, IsTrue, if◌then◌else◌}
use Rattle.s390x_lanes.specs.Size.{element_bits, lane_count}
use Rattle.s390x_lanes.specs.Lanes.{lane, some_lane, every_lane}
use Rattle.s390x_lanes.specs.Elements.{is_lower, elements_compare, quotient_overflows}
use Rattle.s390x_lanes.specs.Results.{vector_result}
use Rattle.s390x_lanes.specs.declared.operators.Signedness.{Signedness}
use Rattle.s390x_lanes.specs.declared.operators.Comparison.{Comparison}
use Rattle.s390x_lanes.specs.declared.operators.VectorOperation.{VectorOperation}
use Rattle.s390x_lanes.specs.declared.operators.VectorOperation.TheVariants.{Compare, Divide, ShiftByBits, CompareElement, Blend, Evaluate}

-- ---- condition codes
-- the comparison holds in lane i of two registers
abbrev pub lane_compares : Comparison → ℕ → ℕ → ℕ → ℕ → Bool
lane_compares comparison w x y i = elements_compare comparison w (lane w x i) (lane w y i)

-- 0 where all of n lanes compare, 1 where some do, 3 where none does
abbrev pub lanes_code : Comparison → ℕ → ℕ → ℕ → ℕ → ℕ
lanes_code comparison w n x y =
    if every_lane n (lane_compares comparison w x y) then 0 else (if some_lane n (lane_compares comparison w x y) then 1 else 3)

-- 0 for equal elements, 1 where the first is lower, 2 where it is higher
abbrev pub order_code : Signedness → ℕ → ℕ → ℕ → ℕ
order_code sign w x y = if x == y then 0 else (if is_lower sign w x y then 1 else 2)

-- the condition code that an operation sets; None leaves it
abbrev pub code_of : VectorOperation → ℕ → ℕ → ℕ → Option ℕ
code_of (Compare comparison size sets_code) first second third = if sets_code then Some (lanes_code comparison (element_bits size) (lane_count size) second third) else None
code_of (CompareElement sign size) first second third = Some (order_code sign (element_bits size) (lane (element_bits size) first 0) (lane (element_bits size) second 0))
code_of _ first second third = None

-- ---- stops
-- lane i is 0
abbrev pub lane_is_zero : ℕ → ℕ → ℕ → Bool
lane_is_zero w y i = lane w y i == 0

-- the quotient of lane i doesn't fit
abbrev pub lane_overflows : Signedness → ℕ → ℕ → ℕ → ℕ → Bool
lane_overflows sign w x y i = quotient_overflows sign w (lane w x i) (lane w y i)

-- a division with a divisor 0: it always stops
abbrev pub divides_by_zero : VectorOperation → ℕ → Bool
divides_by_zero (Divide division sign size) third = some_lane (lane_count size) (lane_is_zero (element_bits size) third)
divides_by_zero _ third = false

-- a division with a quotient that doesn't fit: it may stop or give any lanes
abbrev pub division_overflows : VectorOperation → ℕ → ℕ → Bool
division_overflows (Divide division sign size) second third = some_lane (lane_count size) (lane_overflows sign (element_bits size) second third)
division_overflows _ second third = false

-- ---- what is free
-- byte i has the same low three bits as the last byte
abbrev pub shift_byte_agrees : ℕ → ℕ → Bool
shift_byte_agrees y i = lane 8 y i % 8 == y % 8

-- the operands determine the result: not where a quotient doesn't fit, nor where the bytes of a shift by bits disagree, nor for Blend and Evaluate
abbrev pub is_determined : VectorOperation → ℕ → ℕ → Bool
is_determined (Divide division sign size) second third = not (some_lane (lane_count size) (lane_overflows sign (element_bits size) second third))
is_determined (ShiftByBits operator) second third = every_lane 16 (shift_byte_agrees third)
is_determined Blend second third = false
is_determined (Evaluate table) second third = false
is_determined _ second third = true

-- ---- the relation
-- an operation may end with this value and this condition code
pub record Gives (operation : VectorOperation) (first second third fourth value : ℕ) (code : Option ℕ) : Type 0 where
  pub no_zero_divisor : divides_by_zero operation third ≡ false
  pub result : IsTrue (is_determined operation second third) → value ≡ vector_result operation first second third fourth
  pub fits : value < 2 ^ 128
  pub code_set : code ≡ code_of operation first second third

-- an operation may stop
abbrev pub MayStop : VectorOperation → ℕ → ℕ → Type 0
MayStop operation second third = IsTrue (divides_by_zero operation third || division_overflows operation second third)
