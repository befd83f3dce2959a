-- Lanes of what is built from lanes.
use Rattle.std.proofs.Common.{◌≡◌, ℕ, zero, suc, ◌+◌, ◌-◌, ◌*◌, ◌/◌, ◌%◌, ◌^◌, ◌<◌, ◌≤◌, refl, ap, ◌∙◌, arith, add-one}
use Rattle.std.proofs.Math.Pow.{pow_pos, pow-add}
use Rattle.std.proofs.Math.Nat.{div-one, mul-zero, mul-suc, mul-add, add_comm, mul-le-mul_left}
use Rattle.s390x_lanes.specs.declared.size.ElementSize.{ElementSize}
use Rattle.s390x_lanes.specs.declared.size.ElementSize.TheVariants.{Byte}
use Rattle.s390x_lanes.specs.Size.{element_bits, lane_count}
use Rattle.s390x_lanes.proofs.Powers.{pow_le}
use Rattle.std.proofs.lemmas.Nat.{mod_below, shr_high, mod_low, shr-shr}
use Rattle.s390x_lanes.specs.Lanes.{lane, from_lanes}

pub lane_lt : (w x i : ℕ) → lane w x i < 2 ^ w
unfolding lane
lane_lt w x i = mod_below (x / 2 ^ (128 - w * (i + 1))) (2 ^ w) (pow_pos w)

push_lt : (w m x y : ℕ) → x < 2 ^ m → y < 2 ^ w → x * 2 ^ w + y < 2 ^ (m + w)
push_lt w m x y hx hy = grind (arith, pow-add 2 m w)

-- what n lanes from_lanes has w * n bits
pub build_lt : (w n : ℕ) (f : ℕ → ℕ) → ((k : ℕ) → k < n → f k < 2 ^ w) → from_lanes w n f < 2 ^ (w * n)
unfolding from_lanes
build_lt w zero f h = rw (mul-zero w) (omega arith)
build_lt w (suc n) f h = rw (mul-suc w n) (push_lt w (w * n) (from_lanes w n f) (f n) (build_lt w n f (λ k q. h k (omega arith))) (h n (omega arith)))

-- the last lane
last_of : (w x y : ℕ) → y < 2 ^ w → (x * 2 ^ w + y) / 2 ^ 0 % 2 ^ w ≡ y
last_of w x y h = rw (div-one (x * 2 ^ w + y)) (mod_low x w y h)

-- a lane of what was built, counted from the right
pub build_at : (w n d : ℕ) (f : ℕ → ℕ) → ((k : ℕ) → k < n → f k < 2 ^ w) → (i : ℕ) → i + suc d ≡ n → from_lanes w n f / 2 ^ (w * d) % 2 ^ w ≡ f i
unfolding from_lanes
build_at w zero d f h i e = absurd (omega arith)
build_at w (suc n) zero f h i e =
    let s : n ≡ i = omega arith in
    rw (mul-zero w) (last_of w (from_lanes w n f) (f n) (h n (omega arith)) ∙ ap f s)
build_at w (suc n) (suc d) f h i e =
    let q : f n < 2 ^ w = h n (omega arith) in
    rw (mul-suc w d, add_comm (w * d) w, ← shr-shr (from_lanes w n f * 2 ^ w + f n) w (w * d), shr_high (from_lanes w n f) w (f n) q) (build_at w n d f (λ k r. h k (omega arith)) i (omega arith))

-- lane i of n lanes built is f i
pub lane-from_lanes : (w n i : ℕ) (f : ℕ → ℕ) → w * n ≡ 128 → i < n → ((k : ℕ) → k < n → f k < 2 ^ w) → lane w (from_lanes w n f) i ≡ f i
unfolding lane
lane-from_lanes w n i f e h b =
    let s : n ≡ (n - (i + 1)) + (i + 1) = omega arith in
    let m : w * n ≡ w * (n - (i + 1)) + w * (i + 1) = ap (λ (k : ℕ). w * k) s ∙ mul-add w (n - (i + 1)) (i + 1) in
    let t : 128 - w * (i + 1) ≡ w * (n - (i + 1)) = omega arith in
    rw t (build_at w n (n - (i + 1)) f b i (omega arith))

-- ---- a step of the loop that builds
pub whole : (s : ElementSize) → element_bits s * lane_count s ≡ 128
whole Byte = refl
whole s = refl

pub more_lt : (w i x v : ℕ) → x < 2 ^ (w * i) → v < 2 ^ w → x * 2 ^ w + v < 2 ^ (w * (i + 1))
more_lt w i x v h g = let e : w * (i + 1) ≡ w * i + w = omega arith in rw e (push_lt w (w * i) x v h g)

pub room : (w n i x v : ℕ) → w * n ≡ 128 → i < n → x < 2 ^ (w * i) → v < 2 ^ w → x * 2 ^ w + v < 2 ^ 128
room w n i x v e q h g =
    let a = more_lt w i x v h g in
    let m : w * (i + 1) ≤ w * n = mul-le-mul_left w (omega arith) in
    omega (arith, pow_le (w * (i + 1)) 128 (omega arith))

pub build_more : (w i : ℕ) (f : ℕ → ℕ) → from_lanes w (i + 1) f ≡ from_lanes w i f * 2 ^ w + f i
unfolding from_lanes
build_more w i f = rw (add-one i) refl

pub build_none : (w : ℕ) (f : ℕ → ℕ) → from_lanes w 0 f ≡ 0
unfolding from_lanes
build_none w f = refl

-- a result of one lane
pub build_one : (w : ℕ) (f : ℕ → ℕ) → from_lanes w 1 f ≡ f 0
unfolding from_lanes
build_one w f = omega arith
