-- Results of vector operations without lanes.
use Rattle.std.proofs.Common.{◌≡◌, ℕ, ◌+◌, ◌*◌, ◌/◌, ◌%◌, ◌^◌, ◌<◌, sym, ap₂, ◌∙◌, arith}
use Rattle.std.specs.Prelude.{bit_and, bit_or, bit_xor}
use Rattle.s390x_lanes.specs.Lanes.{lane, from_lanes}
use Rattle.s390x_lanes.specs.Results.{result_lane, vector_result}
use Rattle.s390x_lanes.proofs.Building.{build_one}
use Rattle.s390x_lanes.specs.declared.operators.BinaryOperator.TheVariants.{Add, And, Or, Xor}
use Rattle.s390x_lanes.specs.declared.operators.VectorOperation.TheVariants.{Binary}
use Rattle.s390x_lanes.specs.declared.size.ElementSize.TheVariants.{Doubleword, Quadword}

whole : (x : ℕ) → x < 2 ^ 128 → lane 128 x 0 ≡ x
unfolding lane
whole x fits = omega (arith, fits)

-- two sums
pub sums : (first x y fourth high low : ℕ) → x < 2 ^ 128 → y < 2 ^ 128 →
    high ≡ (x / 18446744073709551616 + y / 18446744073709551616) % 2 ^ 64 → low ≡ (x % 18446744073709551616 + y % 18446744073709551616) % 2 ^ 64 →
    high * 18446744073709551616 + low ≡ vector_result (Binary Add Doubleword) first x y fourth
unfolding lane from_lanes
sums first x y fourth high low x_fits y_fits h l = omega (arith, x_fits, y_fits, h, l)

-- one lane
pub ands : (first x y fourth : ℕ) → x < 2 ^ 128 → y < 2 ^ 128 → bit_and x y ≡ vector_result (Binary And Quadword) first x y fourth
ands first x y fourth x_fits y_fits = sym (build_one 128 (result_lane (Binary And Quadword) first x y fourth) ∙ ap₂ (λ (a b : ℕ). bit_and a b) (whole x x_fits) (whole y y_fits))

pub ors : (first x y fourth : ℕ) → x < 2 ^ 128 → y < 2 ^ 128 → bit_or x y ≡ vector_result (Binary Or Quadword) first x y fourth
ors first x y fourth x_fits y_fits = sym (build_one 128 (result_lane (Binary Or Quadword) first x y fourth) ∙ ap₂ (λ (a b : ℕ). bit_or a b) (whole x x_fits) (whole y y_fits))

pub xors : (first x y fourth : ℕ) → x < 2 ^ 128 → y < 2 ^ 128 → bit_xor x y ≡ vector_result (Binary Xor Quadword) first x y fourth
xors first x y fourth x_fits y_fits = sym (build_one 128 (result_lane (Binary Xor Quadword) first x y fourth) ∙ ap₂ (λ (a b : ℕ). bit_xor a b) (whole x x_fits) (whole y y_fits))
