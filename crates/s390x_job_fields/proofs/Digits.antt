-- Reading a number gives back what was printed.
use Rattle.std.proofs.Common.{◌≡◌, ℕ, zero, suc, ◌+◌, ◌-◌, ◌*◌, ◌/◌, ◌%◌, ◌<◌, ◌≤◌, ◌^◌, true, false, List, [], ◌∷◌, ◌++◌, length, refl, ◌∙◌, arith, ℤ, pos, negsuc}
use Rattle.std.specs.Prelude.{◌==◌, nat_lt, nat_le, slice_index}
use Rattle.std.specs.Fmt.{decimal, signed_decimal}
use Rattle.std.proofs.lemmas.Fmt.{decimal_by_steps, decimal_nonempty}
use Rattle.std.proofs.lemmas.Bool.Decides.{nat_tests}
use Rattle.s390x_job_fields.specs.Marks.{among}
use Rattle.s390x_job_fields.specs.Numbers.{Width, W8, W12, W16, W32, W64, width_bits, SignedWidth, S8, S16, S20, S32, S64, signed_limit, IsBelow, decimal_from, decimal_of, natural_of, signed_below, integer_of}
use Rattle.s390x_job_fields.proofs.Avoids.{Avoids, Avoids-append, Avoids-fewer, marks, IsOneWord}

decimal_from-append : (xs : List ℕ) (a : ℕ) (ys : List ℕ) → decimal_from a (xs ++ ys) ≡ decimal_from (decimal_from a xs) ys
decimal_from-append [] a ys = refl
decimal_from-append (x ∷ xs) a ys = decimal_from-append xs (((a * 10) % 2 ^ 64 + (x - 48)) % 2 ^ 64) ys

pub small_mod : (n m : ℕ) → n < m → n % m ≡ n
small_mod n m h = grind arith

step : (q d n : ℕ) → q * 10 + d ≡ n → n < 2 ^ 64 → ((q * 10) % 2 ^ 64 + ((48 + d) - 48)) % 2 ^ 64 ≡ n
step q d n e h =
    let a : q * 10 < 2 ^ 64 = omega arith in
    let b = small_mod (q * 10) (2 ^ 64) a in
    let c : (48 + d) - 48 ≡ d = omega arith in
    rw (b, c, e) (small_mod n (2 ^ 64) h)

abbrev Reads : ℕ → List ℕ → Type 0
Reads n ds = n < 2 ^ 64 → decimal_from 0 ds ≡ n

pub decimal-round_trip : (n : ℕ) → n < 2 ^ 64 → decimal_of (decimal n) ≡ n
decimal-round_trip n h =
    decimal_by_steps Reads (λ n s h. step 0 n n (omega arith) h) (λ n ds s ih h. decimal_from-append ds 0 ((48 + n % 10) ∷ []) ∙ (rw (ih (omega arith)) (step (n / 10) (n % 10) n (omega arith) h))) n h h

-- the bytes that no digit is
abbrev pub no_digits : List ℕ
no_digits = 10 ∷ 32 ∷ 40 ∷ 41 ∷ 91 ∷ 93 ∷ 44 ∷ 58 ∷ 47 ∷ 61 ∷ 33 ∷ 64 ∷ 45 ∷ 37 ∷ 42 ∷ []

digit : (d : ℕ) → d < 10 → among (48 + d) no_digits ≡ false
digit (suc (suc (suc (suc (suc (suc (suc (suc (suc (suc d)))))))))) h = absurd (omega arith)
digit d h = refl

pub decimal-digits : (n : ℕ) → n < 2 ^ 64 → Avoids no_digits (decimal n)
decimal-digits n h =
    decimal_by_steps (λ n ds. Avoids no_digits ds) (λ n s. (digit n s, tt)) (λ n ds s ih. Avoids-append no_digits ds ((48 + n % 10) ∷ []) ih (digit (n % 10) (omega arith), tt)) n h

pub decimal-one_word : (n : ℕ) → n < 2 ^ 64 → IsOneWord (decimal n)
decimal-one_word n h = Avoids-fewer no_digits marks refl (decimal n) (decimal-digits n h)

pub signed-one_word : (z : ℤ) → IsBelow (2 ^ 63) z → IsOneWord (signed_decimal z)
signed-one_word (pos n) h = decimal-one_word n (omega arith)
signed-one_word (negsuc n) h = (refl, decimal-one_word (suc n) (omega arith))

-- a text that does not begin with a byte
pub first-not : (c : ℕ) (s : List ℕ) → Avoids (c ∷ []) s → 0 < length s → (slice_index s 0 == c) ≡ false
first-not c [] h p = absurd (omega arith)
first-not c (x ∷ s) h p = grind (arith, nat_tests, h.0)

int-signed : (limit : ℕ) (z : ℤ) → limit ≤ 2 ^ 63 → IsBelow limit z → signed_below limit (signed_decimal z) ≡ z
int-signed limit (pos n) l h =
    let s : n < 2 ^ 64 = omega arith in
    let f = first-not 45 (decimal n) (Avoids-fewer no_digits (45 ∷ []) refl (decimal n) (decimal-digits n s)) (decimal_nonempty n s) in
    let t : nat_lt n limit ≡ true = grind (arith, nat_tests) in
    rw (f, decimal-round_trip n s, t) refl
int-signed limit (negsuc n) l h =
    let s : suc n < 2 ^ 64 = omega arith in
    let a : nat_lt 0 (suc n) ≡ true = grind (arith, nat_tests) in
    let b : nat_le (suc n) limit ≡ true = grind (arith, nat_tests) in
    let d : suc n - 1 ≡ n = omega arith in
    rw (decimal-round_trip (suc n) s, a, b, d) refl

pub wide : (w : Width) (n : ℕ) → n < 2 ^ width_bits w → n < 2 ^ 64
wide W64 n h = h
wide w n h = omega arith

pub natural-round_trip : (w : Width) (n : ℕ) → n < 2 ^ width_bits w → natural_of w (decimal n) ≡ n
natural-round_trip w n h = rw (decimal-round_trip n (wide w n h)) (small_mod n (2 ^ width_bits w) h)

pub signed_small : (w : SignedWidth) → signed_limit w ≤ 2 ^ 63
signed_small S8 = omega arith
signed_small w = omega arith

pub signed_wide : (w : SignedWidth) (z : ℤ) → IsBelow (signed_limit w) z → IsBelow (2 ^ 63) z
signed_wide w (pos n) h = omega (arith, h, signed_small w)
signed_wide w (negsuc n) h = omega (arith, h, signed_small w)

pub integer-round_trip : (w : SignedWidth) (z : ℤ) → IsBelow (signed_limit w) z → integer_of w (signed_decimal z) ≡ z
integer-round_trip w z h = int-signed (signed_limit w) z (signed_small w) h
