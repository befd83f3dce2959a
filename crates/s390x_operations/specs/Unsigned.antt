-- The operators on numbers without signs, comparisons, and pairs.
use Rattle.std.specs.Prelude.{ℕ, ◌+◌, ◌-◌, ◌*◌, ◌/◌, ◌%◌, ◌<◌, if◌then◌else◌, ◌==◌, nat_lt, ℤ, pos, ◌*ℤ◌, int_lt, unsigned_abs, int_div, int_rem, Option, Some, None}
use Rattle.std.specs.Int.{int_shr}
use Rattle.s390x_operations.specs.Numbers.{modulus, signed_number, fits, low}
use Rattle.s390x_operations.specs.declared.size.Size.{Size}
use Rattle.s390x_operations.specs.declared.size.Size.TheVariants.{Doubleword}
use Rattle.s390x_operations.specs.declared.stop.ConditionCode.{ConditionCode}
use Rattle.s390x_operations.specs.declared.stop.ConditionCode.TheVariants.{Code0, Code1, Code2, Code3}
use Rattle.s390x_operations.specs.declared.operator.LogicalOperator.{LogicalOperator}
use Rattle.s390x_operations.specs.declared.operator.LogicalOperator.TheVariants.{Add, Subtract}
use Rattle.s390x_lanes.specs.declared.operators.Signedness.{Signedness}
use Rattle.s390x_lanes.specs.declared.operators.Signedness.TheVariants.{Signed, Unsigned}
use Rattle.s390x_operations.specs.declared.operand.Pair.{Pair}

-- code A, of a logical sum (Principles of Operation, chapter 7, "Unsigned binary arithmetic"): 0 zero and 1 nonzero without a carry, 2 zero and 3 nonzero with one
abbrev pub code_a : Size → ℕ → ConditionCode
code_a size sum = if nat_lt sum (modulus size) then (if sum == 0 then Code0 else Code1) else (if sum % modulus size == 0 then Code2 else Code3)

-- code B, of a logical difference (chapter 7, "Unsigned binary arithmetic"): 1 with a borrow, 2 zero, 3 nonzero without a borrow
abbrev pub code_b : ℕ → ℕ → ConditionCode
code_b x y = if nat_lt x y then Code1 else (if x == y then Code2 else Code3)

-- the value of an operator on numbers without signs, modulo 2 ^ 32 or 2 ^ 64
abbrev pub logical_value : LogicalOperator → Size → ℕ → ℕ → ℕ
logical_value Add size x y = (x + y) % modulus size
logical_value Subtract size x y = (x + (modulus size - y)) % modulus size

-- its condition code: code A of a sum, code B of a difference
abbrev pub logical_code : LogicalOperator → Size → ℕ → ℕ → ConditionCode
logical_code Add size x y = code_a size (x + y)
logical_code Subtract size x y = code_b x y

-- a number, read with or without its sign
abbrev pub read : Signedness → Size → ℕ → ℤ
read Signed size x = signed_number size x
read Unsigned size x = pos x

-- code C, of comparisons (chapter 7, "Signed and logical comparison"): 0 equal, 1 first low, 2 first high
abbrev pub code_c : ℤ → ℤ → ConditionCode
code_c x y = if int_lt x y then Code1 else (if int_lt y x then Code2 else Code0)

-- code C of two numbers, read with or without their signs
abbrev pub compare_code : Signedness → Size → ℕ → ℕ → ConditionCode
compare_code sign size x y = code_c (read sign size x) (read sign size y)

-- the whole product of two registers
abbrev pub wide_product : Signedness → ℕ → ℕ → Pair
wide_product Signed x y = let z = signed_number Doubleword x *ℤ signed_number Doubleword y in record { high = low Doubleword (int_shr z 64); low = low Doubleword z }
wide_product Unsigned x y = record { high = (x * y) / modulus Doubleword; low = (x * y) % modulus Doubleword }

-- remainder and quotient, rounded towards zero; none where it stops
abbrev pub signed_division : ℤ → ℤ → Option Pair
signed_division x y = if unsigned_abs y == 0 then None else (if fits Doubleword (int_div x y) then Some (record { high = low Doubleword (int_rem x y); low = low Doubleword (int_div x y) }) else None)

-- remainder and quotient of numbers without signs; none where it stops
abbrev pub unsigned_division : Size → ℕ → ℕ → Option Pair
unsigned_division size n y = if y == 0 then None else (if nat_lt (n / y) (modulus size) then Some (record { high = n % y; low = n / y }) else None)

-- both numbers, where there are some, have the size
abbrev pub IsPairBelow : Size → Option Pair → Type 0
IsPairBelow size None = Unit {0}
IsPairBelow size (Some p) = (p.high < modulus size) × (p.low < modulus size)
