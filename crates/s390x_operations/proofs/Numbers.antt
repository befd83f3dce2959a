-- Bounds of a size, and powers of two.
use Rattle.std.proofs.Common.{◌≡◌, ℕ, zero, suc, ◌+◌, ◌-◌, ◌*◌, ◌%◌, ◌^◌, ◌<◌, ◌≤◌, arith, add-one, refl, bit_and, bit_or, lit<}
use Rattle.std.specs.Prelude.{bit_xor}
use Rattle.std.proofs.lemmas.Nat.{or_lt, xor_lt, pow_pos, pow_below, one_shl, leading_top, leading_length, and_le_l}
use Rattle.std.proofs.Math.Nat.{pow-le-pow_right, pow-succ'}
use Rattle.std.specs.Int.{leading_zeros, w64}
use Rattle.s390x_operations.specs.Numbers.{modulus}
use Rattle.s390x_operations.specs.declared.size.Size.{Size}
use Rattle.s390x_operations.specs.declared.size.Size.TheVariants.{Halfword, Word, Doubleword}

pub or_below : (size : Size) (a b : ℕ) → a < modulus size → b < modulus size → bit_or a b < modulus size
or_below Halfword a b l m = or_lt 16 a b l m
or_below Word a b l m = or_lt 32 a b l m
or_below Doubleword a b l m = or_lt 64 a b l m

pub and_below : (size : Size) (a b : ℕ) → a < modulus size → bit_and a b < modulus size
and_below size a b l = let m = and_le_l a b in omega arith

pub xor_below : (size : Size) (a b : ℕ) → a < modulus size → b < modulus size → bit_xor a b < modulus size
xor_below Halfword a b l m = xor_lt 16 a b l m
xor_below Word a b l m = xor_lt 32 a b l m
xor_below Doubleword a b l m = xor_lt 64 a b l m

-- the leftmost one of a number
pub leftmost_one : (x : ℕ) → 0 < x → x < 2 ^ 64 → (leading_zeros w64 x < 64) × (1 * 2 ^ (63 - leading_zeros w64 x) % 2 ^ 64 ≡ 2 ^ (63 - leading_zeros w64 x)) × (2 ^ (63 - leading_zeros w64 x) ≤ x)
leftmost_one x pos below = go (leading_top 64 x pos below)
  where
    go : (j : ℕ) × (leading_zeros w64 x + suc j ≡ 64) × (2 ^ j ≤ x) × (x < 2 ^ suc j) → (leading_zeros w64 x < 64) × (1 * 2 ^ (63 - leading_zeros w64 x) % 2 ^ 64 ≡ 2 ^ (63 - leading_zeros w64 x)) × (2 ^ (63 - leading_zeros w64 x) ≤ x)
    go (j, e, l, m) = let k : 63 - leading_zeros w64 x ≡ j = omega arith in (omega arith, one_shl _ 64 (omega arith), rw k l)

pub power_up : (i j : ℕ) → i ≤ j → 2 ^ i ≤ 2 ^ j
power_up i j l = pow-le-pow_right {n = 2} (lit< tt) {i = i} {j = j} l

pub mask_bounds : (start end : ℕ) → (1 ≤ 2 ^ (64 - start)) × (1 ≤ 2 ^ (63 - end)) × (2 ^ (63 - end) < 2 ^ 64) × (2 ^ (64 - start) ≤ 2 ^ 64) × (start ≤ end → 2 ^ (63 - end) ≤ 2 ^ (64 - start)) × (end < start → 2 ^ (64 - start) ≤ 2 ^ (63 - end))
mask_bounds start end = (pow_pos (64 - start), pow_pos (63 - end), pow_below (63 - end) 64 (omega arith), power_up (64 - start) 64 (omega arith), λ l. power_up (63 - end) (64 - start) (omega arith), λ l. power_up (64 - start) (63 - end) (omega arith))

pub leading_all : (x : ℕ) → x ≡ 0 → leading_zeros w64 x ≡ 64
leading_all x e = go (leading_length 64 x (omega arith))
  where
    go : (m : ℕ) × (leading_zeros w64 x + m ≡ 64) × (x < 2 ^ m) × (2 ^ m ≤ 2 * x + 1) → leading_zeros w64 x ≡ 64
    go (zero, f, l, h) = omega arith
    go (suc m, f, l, h) = let k : 2 ^ 0 < 2 ^ suc m = pow_below 0 (suc m) (omega arith) in absurd (omega arith)

-- a number of i bytes and one more byte fit in 64 bits, for i below 8
pub room : (i t : ℕ) → i < 8 → t < 256 ^ i → (t * 256 + 255 < 2 ^ 64) × (256 ^ (i + 1) ≡ 256 * 256 ^ i) × (256 ^ i < 2 ^ 64)
room (suc (suc (suc (suc (suc (suc (suc (suc i)))))))) t lt small = absurd (omega arith)
room i t lt small = (omega arith, refl, omega arith)

-- the same of 128 bits, for i below 16
pub wide_room : (i t : ℕ) → i < 16 → t < 256 ^ i → (t * 256 + 255 < 2 ^ 128) × (256 ^ (i + 1) ≡ 256 * 256 ^ i) × (256 ^ i < 2 ^ 128)
wide_room i t lt small =
    let up = pow-le-pow_right {n = 256} (lit< tt) {i = i + 1} {j = 16} (omega arith) in
    let more : 256 ^ (i + 1) ≡ 256 * 256 ^ i = rw add-one (pow-succ' 256 i) in
    (omega (arith, up, more), more, omega (arith, up, more))
