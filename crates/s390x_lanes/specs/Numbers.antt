-- The number that an element holds, and the element that holds a number.
-- Source: z/Architecture Principles of Operation, "Binary Integers": unsigned, or signed in two's complement.
use Rattle.std.specs.Prelude.{ℕ, ◌-◌, ◌^◌, ℤ, pos, negsuc, nat_lt, if◌then◌else◌}
use Rattle.std.specs.Int.{int_rem_euclid, int_max, int_min}
use Rattle.std.specs.Int.RustNames.{unsigned_abs}
use Rattle.s390x_lanes.specs.declared.operators.Signedness.{Signedness}
use Rattle.s390x_lanes.specs.declared.operators.Signedness.TheVariants.{Unsigned, Signed}

-- the number that an element of w bits holds
abbrev pub element_number : Signedness → ℕ → ℕ → ℤ
element_number Unsigned w x = pos x
element_number Signed w x = if nat_lt x (2 ^ (w - 1)) then pos x else negsuc (2 ^ w - 1 - x)

-- the element of w bits that holds a number modulo 2 ^ w
abbrev pub wrapped_element : ℕ → ℤ → ℕ
wrapped_element w z = unsigned_abs (int_rem_euclid z (pos (2 ^ w)))

-- the least number that an element of w bits can hold
abbrev pub least : Signedness → ℕ → ℤ
least Unsigned w = pos 0
least Signed w = negsuc (2 ^ (w - 1) - 1)

-- the greatest one
abbrev pub greatest : Signedness → ℕ → ℤ
greatest Unsigned w = pos (2 ^ w - 1)
greatest Signed w = pos (2 ^ (w - 1) - 1)

-- the nearest number that an element of w bits can hold
abbrev pub saturated_value : Signedness → ℕ → ℤ → ℤ
saturated_value sign w z = int_max (least sign w) (int_min z (greatest sign w))
