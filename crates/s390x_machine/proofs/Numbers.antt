-- Numbers in memory, byte by byte.
use Rattle.std.proofs.Common.{◌≡◌, ℕ, zero, suc, ◌+◌, ◌-◌, ◌*◌, ◌/◌, ◌%◌, ◌^◌, ◌<◌, ◌≤◌, arith, add-one, refl, ap, ap₂, lit<}
use Rattle.std.proofs.Math.Nat.{pow-le-pow_right}
use Rattle.s390x_operations.specs.Numbers.{modulus}
use Rattle.s390x_operations.specs.Bits.{bytes}
use Rattle.s390x_operations.specs.Values.{width_of}
use Rattle.s390x_operations.specs.State.{update, wrapping_add64, number_at, bytes_to, write_get}
use Rattle.s390x_operations.specs.declared.size.Size.{Size}
use Rattle.s390x_operations.specs.declared.size.Size.TheVariants.{Halfword}

pub number_none : (f : ℕ → ℕ) (a : ℕ) → number_at f a 0 ≡ 0
number_none f a = refl

pub number_more : (f : ℕ → ℕ) (a i : ℕ) → number_at f a (i + 1) ≡ number_at f a i * 256 + f (wrapping_add64 a i)
number_more f a i = rw add-one refl

-- sixteen bytes are eight and eight
pub number_halves : (f : ℕ → ℕ) (a : ℕ) → number_at f a 16 ≡ number_at f a 8 * 18446744073709551616 + number_at f (wrapping_add64 a 8) 8
number_halves f a =
    let there : (k : ℕ) → wrapping_add64 (wrapping_add64 a 8) k ≡ wrapping_add64 a (8 + k) = λ k. omega arith in
    let byte : (k : ℕ) → f (wrapping_add64 (wrapping_add64 a 8) k) ≡ f (wrapping_add64 a (8 + k)) = λ k. ap f (there k) in
    omega (arith, byte 0, byte 1, byte 2, byte 3, byte 4, byte 5, byte 6, byte 7)

pub store_none : (f : ℕ → ℕ) (a v : ℕ) → write_get (bytes_to a 0 v) f ≡ f
store_none f a v = refl

pub store_more : (f : ℕ → ℕ) (a i v : ℕ) → 0 < i → write_get (bytes_to a i v) f ≡ write_get (bytes_to a (i - 1) (v / 256)) (update f (wrapping_add64 a (i - 1)) (v % 256))
store_more f a zero v lt = absurd (omega arith)
store_more f a (suc j) v lt = let e : j ≡ suc j - 1 = omega arith in ap (λ k. write_get (bytes_to a k (v / 256)) (update f (wrapping_add64 a k) (v % 256))) e

same_update : (f g : ℕ → ℕ) (x y b : ℕ) → f ≡ g → x ≡ y → update f x b ≡ update g y b
same_update f g x y b e h = ap₂ (λ (u : ℕ → ℕ) (z : ℕ). update u z b) e h

-- the low eight of sixteen bytes are stored first
pub store_halves : (f : ℕ → ℕ) (a v : ℕ) → write_get (bytes_to a 16 v) f ≡ write_get (bytes_to a 8 (v / 18446744073709551616)) (write_get (bytes_to (wrapping_add64 a 8) 8 v) f)
store_halves f a v =
    let at : (k : ℕ) → wrapping_add64 a (8 + k) ≡ wrapping_add64 (wrapping_add64 a 8) k = λ k. omega arith in
    let high : v / 256 / 256 / 256 / 256 / 256 / 256 / 256 / 256 ≡ v / 18446744073709551616 = omega arith in
    let low : _ ≡ write_get (bytes_to (wrapping_add64 a 8) 8 v) f = same_update _ _ _ _ _ (same_update _ _ _ _ _ (same_update _ _ _ _ _ (same_update _ _ _ _ _ (same_update _ _ _ _ _ (same_update _ _ _ _ _ (same_update _ _ _ _ _ (same_update _ _ _ _ _ refl (at 7)) (at 6)) (at 5)) (at 4)) (at 3)) (at 2)) (at 1)) (at 0) in
    ap₂ (λ (q : ℕ) (g : ℕ → ℕ). write_get (bytes_to a 8 q) g) high low

-- numbers of at most 8 bytes have 64 bits
pub room : (n : ℕ) → n ≤ 8 → 256 ^ n ≤ 2 ^ 64
room n few = pow-le-pow_right {n = 256} (lit< tt) {i = n} {j = 8} few

-- how many numbers the bytes of a size hold
pub whole_bytes : (size : Size) (n : ℕ) → n ≡ bytes (width_of size) → 256 ^ n ≡ modulus size
whole_bytes Halfword n e = ap (λ k. 256 ^ k) e
whole_bytes size n e = ap (λ k. 256 ^ k) e
