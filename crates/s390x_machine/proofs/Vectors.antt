-- Vector operands in memory.
use Rattle.std.proofs.Common.{◌≡◌, ℕ, ◌*◌, ◌^◌, Bool, true, refl, ap}
use Rattle.s390x_lanes.specs.declared.size.ElementSize.{ElementSize}
use Rattle.s390x_lanes.specs.declared.size.ElementSize.TheVariants.{Byte}
use Rattle.s390x_operations.specs.Vectors.{layout_bytes}
use Rattle.s390x_operations.specs.declared.effect.VectorLayout.{VectorLayout}
use Rattle.s390x_operations.specs.declared.effect.VectorLayout.TheVariants.{Replicated, Element}

size_bits : (size : ElementSize) (backwards : Bool) → 256 ^ layout_bytes (Replicated size backwards) ≡ 2 ^ (8 * layout_bytes (Replicated size backwards))
size_bits Byte b = refl
size_bits size b = refl

-- how many numbers the bytes of a layout hold
pub bytes_bits : (layout : VectorLayout) (n : ℕ) → n ≡ layout_bytes layout → 256 ^ n ≡ 2 ^ (8 * layout_bytes layout)
bytes_bits (Replicated size backwards) n e = rw e (size_bits size backwards)
bytes_bits (Element size index backwards) n e = rw e (size_bits size true)
bytes_bits layout n e = ap (λ k. 256 ^ k) e
