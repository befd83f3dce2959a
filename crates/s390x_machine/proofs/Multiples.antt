-- Several doublewords, one after another.
use Rattle.std.proofs.Common.{◌≡◌, ℕ, zero, suc, ◌+◌, ◌-◌, ◌*◌, ◌/◌, ◌%◌, ◌^◌, ◌<◌, ◌≤◌, Bool, true, false, ◌&&◌, IsTrue, List, ◌∷◌, slice_index, arith, add-one, refl, sym, ap, subst, ◌∙◌}
use Rattle.std.proofs.Math.Nat.{mod-add-mod, add_assoc, mul_assoc, div-div-eq-div-mul, pow-suc, pow-succ'}
use Rattle.std.proofs.lemmas.Nat.{div-mul-add}
use Rattle.s390x_operations.specs.State.{Registers, Write, set_general, update, wrapping_add64, number_at, bytes_to, write_get, reaches}
use Rattle.s390x_operations.specs.Effects.{set_multiple, joined_doublewords}
use Rattle.s390x_machine.proofs.Reaching.{reached_at}

pub put_none : (r : Registers) (f : ℕ → ℕ) (d a : ℕ) → set_multiple r f d a 0 ≡ r
put_none r f d a = refl

pub put_more : (r : Registers) (f : ℕ → ℕ) (d a n : ℕ) → set_multiple r f d a (n + 1) ≡ set_general (set_multiple r f d a n) ((d + n) % 16) (number_at f (wrapping_add64 a (8 * n)) 8)
put_more r f d a n = rw add-one refl

pub sum_sum : (a i k : ℕ) → wrapping_add64 (wrapping_add64 a i) k ≡ wrapping_add64 a (i + k)
sum_sum a i k = mod-add-mod (a + i) (2 ^ 64) k ∙ ap (λ n. n % 2 ^ 64) (add_assoc a i k)

each : (p q : Bool) → IsTrue p → IsTrue q → IsTrue (p && q)
each true q h k = k
each false q h k = cc

pub reaches_part : (has : ℕ → Bool) (a n i k : ℕ) → IsTrue (reaches has a n) → i + k ≤ n → IsTrue (reaches has (wrapping_add64 a i) k)
reaches_part has a n i zero r l = refl
reaches_part has a n i (suc k) r l = each (has (wrapping_add64 (wrapping_add64 a i) k)) (reaches has (wrapping_add64 a i) k) (rw (sum_sum a i k) (reached_at has a n (i + k) r (omega arith))) (reaches_part has a n i k r (omega arith))

quotient : (v k : ℕ) → v / 256 / 256 ^ k ≡ v / 256 ^ suc k
quotient v k = div-div-eq-div-mul v 256 (256 ^ k) ∙ ap (λ n. v / n) (sym (pow-succ' 256 k))

-- the last k of m + k bytes of a number are written first
split : (f : ℕ → ℕ) (a m k v : ℕ) → write_get (bytes_to a (m + k) v) f ≡ write_get (bytes_to a m (v / 256 ^ k)) (write_get (bytes_to (wrapping_add64 a m) k v) f)
split f a m zero v =
    let e : m + zero ≡ m = omega arith in
    let q : v / 256 ^ 0 ≡ v = omega arith in
    ap (λ n. write_get (bytes_to a n v) f) e ∙ ap (λ w. write_get (bytes_to a m w) f) (sym q)
split f a m (suc k) v =
    let e : m + suc k ≡ suc (m + k) = omega arith in
    let first : ℕ → ℕ → ℕ = λ p. update f p (v % 256) in
    ap (λ n. write_get (bytes_to a n v) f) e
    ∙ split (first (wrapping_add64 a (m + k))) a m k (v / 256)
    ∙ ap (λ p. write_get (bytes_to a m (v / 256 / 256 ^ k)) (write_get (bytes_to (wrapping_add64 a m) k (v / 256)) (first p))) (sym (sum_sum a m k))
    ∙ ap (λ q. write_get (bytes_to a m q) (write_get (bytes_to (wrapping_add64 a m) (suc k) v) f)) (quotient v k)

-- what lies above k bytes isn't written
low_bytes : (b k v w y : ℕ) → v ≡ w + y * 256 ^ k → bytes_to b k v ≡ bytes_to b k w
low_bytes b zero v w y e = refl
low_bytes b (suc k) v w y e =
    let p = pow-suc 256 k in
    let z : y * 256 ^ suc k ≡ (y * 256 ^ k) * 256 = ap (λ n. y * n) p ∙ sym (mul_assoc y (256 ^ k) 256) in
    let r : v % 256 ≡ w % 256 = omega (arith, e, z) in
    let q : v / 256 ≡ w / 256 + y * 256 ^ k = omega (arith, e, z) in
    ap (λ n. bytes_of_one b k n (v / 256)) r ∙ ap (λ (ws : List Write). record { address = wrapping_add64 b k; byte = w % 256 } ∷ ws) (low_bytes b k (v / 256) (w / 256) y q)
  where
    bytes_of_one : ℕ → ℕ → ℕ → ℕ → List Write
    bytes_of_one b k n rest = record { address = wrapping_add64 b k; byte = n } ∷ bytes_to b k rest

pub stored_none : (values : List ℕ) (f : ℕ → ℕ) (a : ℕ) → write_get (bytes_to a (8 * 0) (joined_doublewords values 0)) f ≡ f
stored_none values f a = refl

pub stored_more : (values : List ℕ) (f : ℕ → ℕ) (a i : ℕ) → 0 < i → slice_index values (i - 1) < 2 ^ 64 → write_get (bytes_to a (8 * i) (joined_doublewords values i)) f ≡ write_get (bytes_to a (8 * (i - 1)) (joined_doublewords values (i - 1))) (write_get (bytes_to (wrapping_add64 a (8 * (i - 1))) 8 (slice_index values (i - 1))) f)
stored_more values f a zero lt small = absurd (omega arith)
stored_more values f a (suc j) lt small =
    let back : j ≡ suc j - 1 = omega arith in
    let fits : slice_index values j < 2 ^ 64 = subst (λ k. slice_index values k < 2 ^ 64) (sym back) small in
    ap (λ n. write_get (bytes_to a n (joined_doublewords values (suc j))) f) (eight j)
    ∙ split f a (8 * j) 8 (joined_doublewords values (suc j))
    ∙ ap (λ q. write_get (bytes_to a (8 * j) q) (write_get (bytes_to (wrapping_add64 a (8 * j)) 8 (joined_doublewords values (suc j))) f)) (div-mul-add (joined_doublewords values j) (2 ^ 64) (slice_index values j) fits)
    ∙ ap (λ (ws : List Write). write_get (bytes_to a (8 * j) (joined_doublewords values j)) (write_get ws f)) (low_bytes (wrapping_add64 a (8 * j)) 8 (joined_doublewords values (suc j)) (slice_index values j) (joined_doublewords values j) (omega arith))
    ∙ ap (λ k. write_get (bytes_to a (8 * k) (joined_doublewords values k)) (write_get (bytes_to (wrapping_add64 a (8 * k)) 8 (slice_index values k)) f)) back
  where
    eight : (j : ℕ) → 8 * suc j ≡ 8 * j + 8
    eight j = omega arith
