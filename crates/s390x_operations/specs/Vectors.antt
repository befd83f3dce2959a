-- Vector operands in memory (Principles of Operation, chapter 21, "Vector support instructions").
use Rattle.std.specs.Prelude.{ℕ, ◌-◌, ◌/◌, ◌==◌, if◌then◌else◌, Bool, true, false}
use Rattle.s390x_lanes.specs.Size.{element_bits, lane_count}
use Rattle.s390x_lanes.specs.Lanes.{lane, from_lanes}
use Rattle.s390x_lanes.specs.declared.size.ElementSize.{ElementSize}
use Rattle.s390x_operations.specs.Bits.{bytes_in_reverse}
use Rattle.s390x_operations.specs.declared.effect.VectorLayout.{VectorLayout}
use Rattle.s390x_operations.specs.declared.effect.VectorLayout.TheVariants.{Whole, ReversedBytes, ReversedElements, Replicated, Element}

-- an element, its bytes reversed where the flag says so
abbrev pub element_value : Bool → ElementSize → ℕ → ℕ
element_value true size x = bytes_in_reverse (element_bits size / 8) x
element_value false size x = x

-- how many bytes lie in memory
abbrev pub layout_bytes : VectorLayout → ℕ
layout_bytes Whole = 16
layout_bytes (ReversedBytes size) = 16
layout_bytes (ReversedElements size) = 16
layout_bytes (Replicated size backwards) = element_bits size / 8
layout_bytes (Element size index backwards) = element_bits size / 8

-- the elements of x, each with its bytes reversed
abbrev pub with_reversed_bytes : ElementSize → ℕ → ℕ
with_reversed_bytes size x = from_lanes (element_bits size) (lane_count size) (λ i. element_value true size (lane (element_bits size) x i))

-- the elements of x in reverse order
abbrev pub with_reversed_elements : ElementSize → ℕ → ℕ
with_reversed_elements size x = from_lanes (element_bits size) (lane_count size) (λ i. lane (element_bits size) x (lane_count size - 1 - i))

-- a register that held `old`, after a load of the number x
abbrev pub register_after_load : VectorLayout → ℕ → ℕ → ℕ
register_after_load Whole old x = x
register_after_load (ReversedBytes size) old x = with_reversed_bytes size x
register_after_load (ReversedElements size) old x = with_reversed_elements size x
register_after_load (Replicated size backwards) old x = from_lanes (element_bits size) (lane_count size) (λ i. element_value backwards size x)
register_after_load (Element size index backwards) old x =
    from_lanes (element_bits size) (lane_count size) (λ i. if i == index then element_value backwards size x else lane (element_bits size) old i)

-- the number that a store of a register's value puts into memory; nothing stores a replicated element
abbrev pub vector_stored : VectorLayout → ℕ → ℕ
vector_stored Whole x = x
vector_stored (ReversedBytes size) x = with_reversed_bytes size x
vector_stored (ReversedElements size) x = with_reversed_elements size x
vector_stored (Replicated size backwards) x = element_value backwards size (lane (element_bits size) x 0)
vector_stored (Element size index backwards) x = element_value backwards size (lane (element_bits size) x index)
