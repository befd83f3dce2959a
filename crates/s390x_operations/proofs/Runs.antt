-- Steps over the bytes of a number.
use Rattle.std.proofs.Common.{◌≡◌, ◌≢◌, ℕ, zero, suc, ◌+◌, ◌-◌, ◌*◌, ◌/◌, ◌%◌, ◌<◌, ◌≤◌, arith, refl, ap}
use Rattle.std.specs.Prelude.{count_ones}
use Rattle.std.proofs.lemmas.Nat.{ones_le_self}
use Rattle.s390x_operations.specs.Bits.{ones_by_byte, reversed_onto}

pub ones_none : (n x : ℕ) → n ≡ 0 → ones_by_byte n x ≡ 0
unfolding ones_by_byte
ones_none n x e = rw e refl

pub ones_more : (n x : ℕ) → n ≢ 0 → ones_by_byte n x ≡ ones_by_byte (n - 1) (x / 256) * 256 + count_ones (x % 256)
unfolding ones_by_byte
ones_more zero x ne = absurd (ne refl)
ones_more (suc n) x ne = let e : n ≡ suc n - 1 = omega arith in ap (λ k. ones_by_byte k (x / 256) * 256 + count_ones (x % 256)) e

pub ones_of_byte : (x : ℕ) → count_ones (x % 256) ≤ x % 256
ones_of_byte x = ones_le_self (x % 256)

pub reversed_none : (n x a : ℕ) → n ≡ 0 → reversed_onto n x a ≡ a
unfolding reversed_onto
reversed_none n x a e = rw e refl

pub reversed_more : (n i x a : ℕ) → i < n → reversed_onto (n - i) x a ≡ reversed_onto (n - (i + 1)) (x / 256) (a * 256 + x % 256)
unfolding reversed_onto
reversed_more n i x a l = go (n - i) (n - (i + 1)) (omega arith)
  where
    go : (m k : ℕ) → m ≡ suc k → reversed_onto m x a ≡ reversed_onto k (x / 256) (a * 256 + x % 256)
    go m k e = rw e refl
