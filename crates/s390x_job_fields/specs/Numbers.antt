-- Numbers, as they are read: a reader is total, and says nothing of a text that no number has.
use Rattle.std.specs.Prelude.{ℕ, ◌+◌, ◌-◌, ◌*◌, ◌%◌, ◌^◌, ◌<◌, List, [], ◌∷◌, ℤ, pos, negsuc, nat_lt, nat_le, if◌then◌else◌, ◌==◌, slice_index, drop}

-- the widths of unsigned fields, in bits
pub data Width : Type 0 where
  W8 : Width
  W12 : Width
  W16 : Width
  W32 : Width
  W64 : Width

-- how many bits a width has
abbrev pub width_bits : Width → ℕ
width_bits W8 = 8
width_bits W12 = 12
width_bits W16 = 16
width_bits W32 = 32
width_bits W64 = 64

-- the widths of signed fields, in bits
pub data SignedWidth : Type 0 where
  S8 : SignedWidth
  S16 : SignedWidth
  S20 : SignedWidth
  S32 : SignedWidth
  S64 : SignedWidth

-- one past the greatest number, which is less the least one
abbrev pub signed_limit : SignedWidth → ℕ
signed_limit S8 = 2 ^ 7
signed_limit S16 = 2 ^ 15
signed_limit S20 = 2 ^ 19
signed_limit S32 = 2 ^ 31
signed_limit S64 = 2 ^ 63

-- at least minus the limit, and below it
abbrev pub IsBelow : ℕ → ℤ → Type 0
IsBelow limit (pos n) = n < limit
IsBelow limit (negsuc n) = n < limit

-- the number a with the decimal digits behind it, modulo 2 ^ 64
abbrev pub decimal_from : ℕ → List ℕ → ℕ
decimal_from a [] = a
decimal_from a (c ∷ cs) = decimal_from (((a * 10) % 2 ^ 64 + (c - 48)) % 2 ^ 64) cs

-- the number of decimal digits, modulo 2 ^ 64
abbrev pub decimal_of : List ℕ → ℕ
decimal_of s = decimal_from 0 s

-- the number of decimal digits, cut to a width
abbrev pub natural_of : Width → List ℕ → ℕ
natural_of w s = decimal_of s % 2 ^ width_bits w

-- minus m, where m is 1 to the limit
abbrev pub minus_of : ℕ → ℕ → ℤ
minus_of limit m = if nat_lt 0 m then (if nat_le m limit then negsuc (m - 1) else pos 0) else pos 0

-- plus m, where m is below the limit
abbrev pub plus_of : ℕ → ℕ → ℤ
plus_of limit m = if nat_lt m limit then pos m else pos 0

-- the number of decimal digits with or without a minus sign; 0 where it passes the limit
abbrev pub signed_below : ℕ → List ℕ → ℤ
signed_below limit s = if slice_index s 0 == 45 then minus_of limit (decimal_of (drop 1 s)) else plus_of limit (decimal_of s)

-- the number with a sign that a text spells, in a width
abbrev pub integer_of : SignedWidth → List ℕ → ℤ
integer_of w s = signed_below (signed_limit w) s
