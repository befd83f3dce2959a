-- Element sizes.
-- Source: z/Architecture Principles of Operation, vector overview: elements of 8, 16, 32, 64 and 128 bits have the element-size codes 0 to 4.
use Rattle.std.specs.Prelude.{ℕ, ◌-◌, ◌==◌, if◌then◌else◌}
use Rattle.s390x_lanes.specs.declared.size.ElementSize.{ElementSize}
use Rattle.s390x_lanes.specs.declared.size.ElementSize.TheVariants.{Byte, Halfword, Word, Doubleword, Quadword}

-- how many bits an element has
abbrev pub element_bits : ElementSize → ℕ
element_bits Byte = 8
element_bits Halfword = 16
element_bits Word = 32
element_bits Doubleword = 64
element_bits Quadword = 128

-- how many elements a register has
abbrev pub lane_count : ElementSize → ℕ
lane_count Byte = 16
lane_count Halfword = 8
lane_count Word = 4
lane_count Doubleword = 2
lane_count Quadword = 1

-- elements of twice the bits; none are wider than 128
abbrev pub wider : ElementSize → ElementSize
wider Byte = Halfword
wider Halfword = Word
wider Word = Doubleword
wider Doubleword = Quadword
wider Quadword = Quadword

-- the size with an element-size code of 0 to 4
abbrev pub size_of_code : ℕ → ElementSize
size_of_code c = if c == 0 then Byte else (if c == 1 then Halfword else (if c == 2 then Word else (if c == 3 then Doubleword else Quadword)))

-- the size of half the bits: the result's where a row packs elements with code 1 to 3
abbrev pub narrower_of_code : ℕ → ElementSize
narrower_of_code c = size_of_code (c - 1)
