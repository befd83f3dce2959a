-- Lanes of one width as lanes of another, and a number from its lanes.
use Rattle.std.proofs.Common.{◌≡◌, ℕ, zero, suc, ◌+◌, ◌-◌, ◌*◌, ◌/◌, ◌%◌, ◌^◌, ◌<◌, ◌≤◌, refl, sym, ap, ap₂, ◌∙◌, arith}
use Rattle.std.proofs.Math.Pow.{mod-mod-pow, shr-shr}
use Rattle.std.proofs.Math.Nat.{mul-suc, div-one}
use Rattle.std.proofs.lemmas.Nat.{field_of, shr_split, shr_below}
use Rattle.s390x_lanes.specs.Lanes.{lane, from_lanes}

-- the left and the right half of a lane
pub lane_left : (w x i : ℕ) → w * (2 * i + 2) ≤ 128 → lane w x (2 * i) ≡ lane (2 * w) x i / 2 ^ w
unfolding lane
lane_left w x i h =
    let e : 2 * w ≡ w + w = omega arith in
    let d : 128 - w * (2 * i + 1) ≡ (128 - 2 * w * (i + 1)) + w = omega arith in
    rw (d, ← shr-shr x (128 - 2 * w * (i + 1)) w)
    (sym (field_of (x / 2 ^ (128 - 2 * w * (i + 1))) w w) ∙ ap (λ (k : ℕ). x / 2 ^ (128 - 2 * w * (i + 1)) % 2 ^ k / 2 ^ w) (sym e))

pub lane_right : (w x i : ℕ) → lane w x (2 * i + 1) ≡ lane (2 * w) x i % 2 ^ w
unfolding lane
lane_right w x i =
    let e : 2 * w ≡ w + w = omega arith in
    let d : 128 - w * (2 * i + 1 + 1) ≡ 128 - 2 * w * (i + 1) = omega arith in
    rw d (sym (mod-mod-pow (x / 2 ^ (128 - 2 * w * (i + 1))) w w) ∙ ap (λ (k : ℕ). x / 2 ^ (128 - 2 * w * (i + 1)) % 2 ^ k % 2 ^ w) (sym e))

-- equal lanes from_lanes equal numbers
pub build_same : (w n : ℕ) (f g : ℕ → ℕ) → ((k : ℕ) → k < n → f k ≡ g k) → from_lanes w n f ≡ from_lanes w n g
unfolding from_lanes
build_same w zero f g h = refl
build_same w (suc n) f g h = ap₂ (λ (a b : ℕ). a * 2 ^ w + b) (build_same w n f g (λ k q. h k (omega arith))) (h n (omega arith))

-- the left m lanes of x
left_lanes : (w x m : ℕ) → x < 2 ^ 128 → w * m ≤ 128 → from_lanes w m (lane w x) ≡ x / 2 ^ (128 - w * m)
unfolding from_lanes lane
left_lanes w x zero p h =
    let e : 128 - w * 0 ≡ 128 = omega arith in
    rw e (sym (let z : x / 2 ^ 128 < 2 ^ 0 = shr_below x 0 128 p in omega arith))
left_lanes w x (suc m) p h =
    let s : w * suc m ≡ w * m + w = mul-suc w m in
    let i : x / 2 ^ (128 - w * m) ≡ x / 2 ^ (128 - w * suc m) / 2 ^ w = (let d : 128 - w * m ≡ (128 - w * suc m) + w = omega arith in ap (λ (k : ℕ). x / 2 ^ k) d ∙ sym (shr-shr x (128 - w * suc m) w)) in
    let t : 128 - w * (m + 1) ≡ 128 - w * suc m = omega arith in
    rw (left_lanes w x m p (omega arith), i, t) (shr_split (x / 2 ^ (128 - w * suc m)) w)

-- a number is what its lanes from_lanes
pub from_lanes-lanes : (w n x : ℕ) → w * n ≡ 128 → x < 2 ^ 128 → from_lanes w n (lane w x) ≡ x
from_lanes-lanes w n x e p =
    let d : 128 - w * n ≡ 0 = omega arith in
    left_lanes w x n p (omega arith) ∙ ap (λ (k : ℕ). x / 2 ^ k) d ∙ div-one x

-- two numbers with the same lanes are one
pub same_lanes : (w n x y : ℕ) → w * n ≡ 128 → x < 2 ^ 128 → y < 2 ^ 128 → ((k : ℕ) → k < n → lane w x k ≡ lane w y k) → x ≡ y
same_lanes w n x y e p q h = sym (from_lanes-lanes w n x e p) ∙ build_same w n (lane w x) (lane w y) h ∙ from_lanes-lanes w n y e q
