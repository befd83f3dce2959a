-- The bits of elements of w bits that the code computes with, in place of their signed numbers.
-- proofs/Signed.antt says what each is of the numbers.
use Rattle.std.specs.Prelude.{ℕ, ◌+◌, ◌-◌, ◌*◌, ◌/◌, ◌%◌, ◌^◌, nat_lt, nat_le, min, ◌==◌, if◌then◌else◌}

-- with the sign bit inverted: signed order becomes unsigned order
abbrev pub biased_element : ℕ → ℕ → ℕ
biased_element w x = if nat_lt x (2 ^ (w - 1)) then x + 2 ^ (w - 1) else x - 2 ^ (w - 1)

-- sign-extended to v bits
abbrev pub sign_extended : ℕ → ℕ → ℕ → ℕ
sign_extended w v x = if nat_lt x (2 ^ (w - 1)) then x else x + (2 ^ v - 2 ^ w)

-- the two's complement
abbrev pub negation : ℕ → ℕ → ℕ
negation w x = if x == 0 then 0 else 2 ^ w - x

-- how far the signed number is from 0
abbrev pub magnitude : ℕ → ℕ → ℕ
magnitude w x = if nat_lt x (2 ^ (w - 1)) then x else 2 ^ w - x

-- the average of two unsigned numbers, rounded up
abbrev pub rounded_mean : ℕ → ℕ → ℕ
rounded_mean x y = (x + y + 1) / 2

-- a signed number divided by 2 ^ k, rounded down: a negative one as its complement
abbrev pub shifted_right : ℕ → ℕ → ℕ → ℕ
shifted_right w x k = if nat_lt x (2 ^ (w - 1)) then x / 2 ^ k else 2 ^ w - 1 - (2 ^ w - 1 - x) / 2 ^ k

-- a signed number of 2 * w bits, saturated to w
abbrev pub saturated_bits : ℕ → ℕ → ℕ
saturated_bits w x =
    if nat_lt x (2 ^ (2 * w - 1)) then min x (2 ^ (w - 1) - 1)
    else (if nat_le (2 ^ (2 * w) - x) (2 ^ (w - 1)) then 2 ^ w - (2 ^ (2 * w) - x) else 2 ^ (w - 1))

-- a signed quotient, rounded towards zero
abbrev pub quotient_bits : ℕ → ℕ → ℕ → ℕ
quotient_bits w x y =
    if nat_lt x (2 ^ (w - 1)) then (if nat_lt y (2 ^ (w - 1)) then magnitude w x / magnitude w y else negation w (magnitude w x / magnitude w y))
    else (if nat_lt y (2 ^ (w - 1)) then negation w (magnitude w x / magnitude w y) else magnitude w x / magnitude w y)

-- its remainder
abbrev pub remainder_bits : ℕ → ℕ → ℕ → ℕ
remainder_bits w x y = if nat_lt x (2 ^ (w - 1)) then magnitude w x % magnitude w y else negation w (magnitude w x % magnitude w y)
