-- Constants behind the code.
use Rattle.std.specs.Prelude.{ℕ, ◌+◌, ◌-◌, ◌*◌, ◌/◌, List, [], ◌∷◌, ◌++◌, length, replicate, max}
use Rattle.s390x_buffer.specs.State.{Constant}

-- the next multiple of a, from n on
abbrev pub round_up : ℕ → ℕ → ℕ
round_up n a = (n + (a - 1)) / a * a

-- where a constant starts behind n bytes: at the next multiple of the greater of 2 and its alignment
abbrev pub constant_start : ℕ → Constant → ℕ
constant_start n c = round_up n (max 2 c.align)

-- where each one starts, one after another
abbrev pub constant_starts : ℕ → List Constant → List ℕ
constant_starts n [] = []
constant_starts n (c ∷ cs) = constant_start n c ∷ constant_starts (constant_start n c + length c.bytes) cs

-- where the last one ends
abbrev pub constants_end : ℕ → List Constant → ℕ
constants_end n [] = n
constants_end n (c ∷ cs) = constants_end (constant_start n c + length c.bytes) cs

-- a constant's bytes behind n bytes, with zero bytes before them
abbrev pub padded_constant : ℕ → Constant → List ℕ
padded_constant n c = replicate (constant_start n c - n) 0 ++ c.bytes

-- the bytes of all of them
abbrev pub constant_bytes : ℕ → List Constant → List ℕ
constant_bytes n [] = []
constant_bytes n (c ∷ cs) = padded_constant n c ++ constant_bytes (constant_start n c + length c.bytes) cs

-- the greatest of a number and the alignments
abbrev pub greatest_align : ℕ → List Constant → ℕ
greatest_align a [] = a
greatest_align a (c ∷ cs) = greatest_align (max a c.align) cs
