-- A load of a vector register lane by lane.
use Rattle.std.specs.Prelude.{ℕ, ◌-◌, ◌==◌, if◌then◌else◌, true}
use Rattle.s390x_lanes.specs.Size.{element_bits, lane_count}
use Rattle.s390x_lanes.specs.Lanes.{lane}
use Rattle.s390x_lanes.specs.declared.size.ElementSize.{ElementSize}
use Rattle.s390x_lanes.specs.declared.size.ElementSize.TheVariants.{Quadword}
use Rattle.s390x_operations.specs.Vectors.{element_value}
use Rattle.s390x_operations.specs.declared.effect.VectorLayout.{VectorLayout}
use Rattle.s390x_operations.specs.declared.effect.VectorLayout.TheVariants.{Whole, ReversedBytes, ReversedElements, Replicated, Element}

-- the size of a layout's elements; 16 bytes as they are count as one
abbrev pub layout_size : VectorLayout → ElementSize
layout_size Whole = Quadword
layout_size (ReversedBytes size) = size
layout_size (ReversedElements size) = size
layout_size (Replicated size backwards) = size
layout_size (Element size index backwards) = size

-- lane i of a register that held `old`, after a load of the number x
abbrev pub loaded_lane : VectorLayout → ℕ → ℕ → ℕ → ℕ
loaded_lane Whole old x i = x
loaded_lane (ReversedBytes size) old x i = element_value true size (lane (element_bits size) x i)
loaded_lane (ReversedElements size) old x i = lane (element_bits size) x (lane_count size - 1 - i)
loaded_lane (Replicated size backwards) old x i = element_value backwards size x
loaded_lane (Element size index backwards) old x i = if i == index then element_value backwards size x else lane (element_bits size) old i
