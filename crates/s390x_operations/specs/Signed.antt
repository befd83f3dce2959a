-- The operators on numbers with signs, and code S.
use Rattle.std.specs.Prelude.{ℕ, if◌then◌else◌, ℤ, pos, neg_ℤ, ◌+ℤ◌, ◌-ℤ◌, ◌*ℤ◌, int_lt, unsigned_abs}
use Rattle.s390x_operations.specs.Numbers.{signed_number, fits, low}
use Rattle.s390x_operations.specs.declared.size.Size.{Size}
use Rattle.s390x_operations.specs.declared.stop.ConditionCode.{ConditionCode}
use Rattle.s390x_operations.specs.declared.stop.ConditionCode.TheVariants.{Code0, Code1, Code2, Code3}
use Rattle.s390x_operations.specs.declared.operator.SignedOperator.{SignedOperator}
use Rattle.s390x_operations.specs.declared.operator.SignedOperator.TheVariants.{Add, Subtract, Multiply, Negate, Absolute}

-- the exact result
abbrev pub exact_result : SignedOperator → ℤ → ℤ → ℤ
exact_result Add x y = x +ℤ y
exact_result Subtract x y = x -ℤ y
exact_result Multiply x y = x *ℤ y
exact_result Negate x y = neg_ℤ y
exact_result Absolute x y = pos (unsigned_abs y)

-- code S, of signed results (Principles of Operation, chapter 7, "Signed binary arithmetic"): 0 zero, 1 negative, 2 positive, 3 overflow
abbrev pub code_s : Size → ℤ → ConditionCode
code_s size z = if fits size z then (if int_lt z (pos 0) then Code1 else (if int_lt (pos 0) z then Code2 else Code0)) else Code3

-- the value of an operator on numbers with signs: what of the exact result is kept
abbrev pub signed_value : SignedOperator → Size → ℕ → ℕ → ℕ
signed_value op size x y = low size (exact_result op (signed_number size x) (signed_number size y))

-- its condition code: code S of the exact result
abbrev pub signed_code : SignedOperator → Size → ℕ → ℕ → ConditionCode
signed_code op size x y = code_s size (exact_result op (signed_number size x) (signed_number size y))
