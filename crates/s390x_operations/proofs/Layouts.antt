-- Elements and their bytes.
use Rattle.std.proofs.Common.{◌≡◌, ℕ, ◌+◌, ◌-◌, ◌*◌, ◌/◌, ◌%◌, ◌^◌, ◌≤◌, refl, sym, ap, arith}
use Rattle.s390x_lanes.specs.Size.{element_bits, lane_count}
use Rattle.s390x_lanes.specs.Lanes.{lane, from_lanes}
use Rattle.s390x_lanes.specs.declared.size.ElementSize.{ElementSize}
use Rattle.s390x_lanes.specs.declared.size.ElementSize.TheVariants.{Byte, Halfword, Word, Doubleword, Quadword}
use Rattle.s390x_lanes.proofs.Building.{build_one}
use Rattle.s390x_operations.specs.Vectors.{register_after_load}
use Rattle.s390x_operations.specs.declared.effect.VectorLayout.{VectorLayout}
use Rattle.s390x_operations.specs.declared.effect.VectorLayout.TheVariants.{Whole}
use Rattle.s390x_operations.specs.Layouts.{layout_size, loaded_lane}

-- how many numbers the bytes of an element hold
pub whole_bytes : (size : ElementSize) (n : ℕ) → n ≡ element_bits size / 8 → 256 ^ n ≡ 2 ^ element_bits size
whole_bytes Byte n e = ap (λ k. 256 ^ k) e
whole_bytes size n e = ap (λ k. 256 ^ k) e

pub bytes_whole : (size : ElementSize) → 8 * (element_bits size / 8) ≡ element_bits size
bytes_whole Byte = refl
bytes_whole size = refl

-- a lane past the last one is the last one
pub last_lane : (size : ElementSize) (x i : ℕ) → lane_count size - 1 ≤ i → lane (element_bits size) x i ≡ lane (element_bits size) x (lane_count size - 1)
unfolding lane
last_lane Byte x i l = let e : 128 - 8 * (i + 1) ≡ 0 = omega arith in ap (λ k. x / 2 ^ k % 2 ^ 8) e
last_lane Halfword x i l = let e : 128 - 16 * (i + 1) ≡ 0 = omega arith in ap (λ k. x / 2 ^ k % 2 ^ 16) e
last_lane Word x i l = let e : 128 - 32 * (i + 1) ≡ 0 = omega arith in ap (λ k. x / 2 ^ k % 2 ^ 32) e
last_lane Doubleword x i l = let e : 128 - 64 * (i + 1) ≡ 0 = omega arith in ap (λ k. x / 2 ^ k % 2 ^ 64) e
last_lane Quadword x i l = let e : 128 - 128 * (i + 1) ≡ 0 = omega arith in ap (λ k. x / 2 ^ k % 2 ^ 128) e

-- a load, lane by lane
pub loaded_is : (layout : VectorLayout) (old x : ℕ) → register_after_load layout old x ≡ from_lanes (element_bits (layout_size layout)) (lane_count (layout_size layout)) (loaded_lane layout old x)
loaded_is Whole old x = sym (build_one 128 (λ i. x))
loaded_is layout old x = refl
