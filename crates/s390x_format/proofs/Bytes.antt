-- Numbers as bytes, the most significant first.
use Rattle.std.proofs.Common.{◌≡◌, ℕ, zero, suc, ◌+◌, ◌*◌, ◌%◌, ◌^◌, ◌<◌, ◌≤◌, List, [], ◌∷◌, length, get_or, take, drop, refl, sym, ap, subst, ◌∙◌, arith, drop-cons, drop_of_length-le, add-one}
use Rattle.std.proofs.Math.Pow.{pow_mono, mod-pow-add}
use Rattle.std.proofs.Math.Nat.{mod-one}
use Rattle.s390x_format.specs.Reading.{be_bytes, be_number}
use Rattle.s390x_format.proofs.Packing.{digit_lt, regroup, head_le}

pub be_number_lt : (bs : List ℕ) → ((i : ℕ) → get_or bs i 0 < 256) → be_number bs < 2 ^ (8 * length bs)
unfolding be_number
be_number_lt [] h = omega arith
be_number_lt (b ∷ bs) h =
    let e : 8 + 8 * length bs ≡ 8 * suc (length bs) = omega arith in
    subst (λ (z : ℕ). b * 2 ^ (8 * length bs) + be_number bs < 2 ^ z) e (digit_lt 8 (8 * length bs) b (be_number bs) (h 0) (be_number_lt bs (λ i. h (suc i))))

pub be_step : (bs : List ℕ) (i n : ℕ) → i < length bs →
    n * 2 ^ (8 * length (drop i bs)) + be_number (drop i bs) ≡ (n * 256 + get_or bs i 0) * 2 ^ (8 * length (drop (i + 1) bs)) + be_number (drop (i + 1) bs)
unfolding be_number
be_step bs i n lt =
    let e : 8 * suc (length (drop (suc i) bs)) ≡ 8 + 8 * length (drop (suc i) bs) = omega arith in
    rw (add-one, drop-cons bs i 0 lt, e) (regroup n 8 (8 * length (drop (suc i) bs)) (get_or bs i 0) (be_number (drop (suc i) bs)))

pub be_done : (bs : List ℕ) (i n m : ℕ) → length bs ≤ i → n * 2 ^ (8 * length (drop i bs)) + be_number (drop i bs) ≡ m → n ≡ m
unfolding be_number
be_done bs i n m le e =
    let f : n * 2 ^ (8 * length {A = ℕ} []) + be_number [] ≡ m = subst (λ (xs : List ℕ). n * 2 ^ (8 * length xs) + be_number xs ≡ m) (drop_of_length-le bs le) e in omega (arith, f)

pub be_bound : (bs : List ℕ) (i n : ℕ) → length bs ≤ 6 → ((j : ℕ) → get_or bs j 0 < 256) → i < length bs →
    n * 2 ^ (8 * length (drop i bs)) + be_number (drop i bs) ≡ be_number bs → n * 256 + get_or bs i 0 < 2 ^ 48
be_bound bs i n six h lt e =
    let le : n * 256 + get_or bs i 0 ≤ be_number bs = head_le _ (8 * length (drop (i + 1) bs)) (be_number (drop (i + 1) bs)) (be_number bs) (sym (be_step bs i n lt) ∙ e) in
    let small : 2 ^ (8 * length bs) ≤ 2 ^ 48 = pow_mono {i = 8 * length bs} {j = 48} (omega arith) in
    omega (arith, be_number_lt bs h)

pub be_number-be_bytes : (k n : ℕ) → (length (be_bytes k n) ≡ k) × (be_number (be_bytes k n) ≡ n % 2 ^ (8 * k))
unfolding be_number be_bytes
be_number-be_bytes zero n = (refl, sym (mod-one n))
be_number-be_bytes (suc k) n =
    let t = be_number-be_bytes k n in
    let e : 8 * suc k ≡ 8 + 8 * k = omega arith in
    (ap suc t.0, rw (e, t.0, t.1) (sym (mod-pow-add n 8 (8 * k))))

-- ---- the first few bytes, in pairs

pub number_2 : (bs : List ℕ) → 2 ≤ length bs → be_number (take 2 bs) ≡ get_or bs 0 0 * 256 + get_or bs 1 0
unfolding be_number
number_2 [] le = absurd (omega arith)
number_2 (a ∷ []) le = absurd (omega arith)
number_2 (a ∷ b ∷ bs) le = omega arith

pub number_4 : (bs : List ℕ) → 4 ≤ length bs → be_number (take 4 bs) ≡ (get_or bs 0 0 * 256 + get_or bs 1 0) * 65536 + (get_or bs 2 0 * 256 + get_or bs 3 0)
unfolding be_number
number_4 (a ∷ b ∷ c ∷ d ∷ bs) le = omega arith
number_4 bs le = absurd (omega arith)

pub number_6 : (bs : List ℕ) → 6 ≤ length bs →
    be_number (take 6 bs) ≡ ((get_or bs 0 0 * 256 + get_or bs 1 0) * 65536 + (get_or bs 2 0 * 256 + get_or bs 3 0)) * 65536 + (get_or bs 4 0 * 256 + get_or bs 5 0)
unfolding be_number
number_6 (a ∷ b ∷ c ∷ d ∷ e ∷ f ∷ bs) le = omega arith
number_6 bs le = absurd (omega arith)
