-- Numbers at the head of a text.
use Rattle.std.specs.Prelude.{◌≡◌, ℕ, ◌+◌, ◌-◌, ◌*◌, ◌%◌, ◌^◌, ◌||◌, ◌==◌, Bool, false, if◌then◌else◌, List, [], ◌∷◌, drop, slice_index}
use Rattle.std.specs.Char.{digit_value, is_digit}

-- the number of the digits with which a text begins, behind those of n, modulo 2^64
unfoldable pub digits_read : ℕ → ℕ → List ℕ → ℕ
digits_read radix n [] = n
digits_read radix n (c ∷ cs) = if is_digit c radix then digits_read radix ((n * radix % 2 ^ 64 + digit_value c) % 2 ^ 64) cs else n

-- what stands behind the digits with which a text begins
unfoldable pub digits_left : ℕ → List ℕ → List ℕ
digits_left radix [] = []
digits_left radix (c ∷ cs) = if is_digit c radix then digits_left radix cs else c ∷ cs

-- a number begins with a digit or a sign
abbrev pub begins_number : ℕ → Bool
begins_number c = is_digit c 10 || (c == 45)

-- a text from its first number on
unfoldable pub number_on : List ℕ → List ℕ
number_on [] = []
number_on (c ∷ cs) = if begins_number c then c ∷ cs else number_on cs

-- the bits of the number with which a text begins, and what stands behind it
unfoldable pub signed_read : List ℕ → ℕ
signed_read text = if slice_index text 0 == 45 then (2 ^ 64 - digits_read 10 0 (drop 1 text)) % 2 ^ 64 else digits_read 10 0 text

unfoldable pub signed_left : List ℕ → List ℕ
signed_left text = if slice_index text 0 == 45 then digits_left 10 (drop 1 text) else digits_left 10 text

-- a byte is no digit
abbrev pub IsStop : ℕ → List ℕ → Type 0
IsStop radix text = is_digit (slice_index text 0) radix ≡ false

-- a text begins with a byte
abbrev pub begins_with : ℕ → List ℕ → Bool
begins_with b [] = false
begins_with b (c ∷ cs) = c == b
