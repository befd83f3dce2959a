-- Numbers of two digits, and two digits behind others.
use Rattle.std.proofs.Common.{◌≡◌, ℕ, ◌+◌, ◌/◌, ◌%◌, ◌<◌, ◌≤◌, ◌^◌, [], ◌∷◌, ◌++◌, ap, ◌∙◌, sym, append_assoc, arith}
use Rattle.std.specs.Fmt.{decimal}
use Rattle.std.proofs.lemmas.Fmt.{decimal_digit, decimal_step}

pub two_digits : (n : ℕ) → 10 ≤ n → n < 100 → decimal n ≡ (48 + n / 10) ∷ (48 + n % 10) ∷ []
two_digits n a b =
    let small : n < 2 ^ 64 = omega (arith, b) in
    let first : n / 10 < 10 = omega (arith, b) in
    decimal_step n a small ∙ ap (λ d. d ++ (48 + n % 10) ∷ []) (decimal_digit (n / 10) first)

pub hundreds : (n : ℕ) → 100 ≤ n → n < 2 ^ 64 → decimal n ≡ decimal (n / 100) ++ (48 + n % 100 / 10) ∷ (48 + n % 100 % 10) ∷ []
hundreds n a b =
    let more : 10 ≤ n = omega (arith, a) in
    let tens : 10 ≤ n / 10 = omega (arith, a) in
    let small : n / 10 < 2 ^ 64 = omega (arith, b) in
    let p : n / 10 / 10 ≡ n / 100 = omega arith in
    let q : n / 10 % 10 ≡ n % 100 / 10 = omega arith in
    let r : n % 10 ≡ n % 100 % 10 = omega arith in
    decimal_step n more b
    ∙ ap (λ d. d ++ (48 + n % 10) ∷ []) (decimal_step (n / 10) tens small)
    ∙ append_assoc (decimal (n / 10 / 10)) ((48 + n / 10 % 10) ∷ []) ((48 + n % 10) ∷ [])
    ∙ ap (λ h. decimal h ++ (48 + n / 10 % 10) ∷ (48 + n % 10) ∷ []) p
    ∙ ap (λ t. decimal (n / 100) ++ (48 + t) ∷ (48 + n % 10) ∷ []) q
    ∙ ap (λ u. decimal (n / 100) ++ (48 + n % 100 / 10) ∷ (48 + u) ∷ []) r

pub ten_thousands : (n : ℕ) → 10000 ≤ n → n < 2 ^ 64 → decimal n ≡ decimal (n / 10000) ++ (48 + n % 10000 / 100 / 10) ∷ (48 + n % 10000 / 100 % 10) ∷ (48 + n % 10000 % 100 / 10) ∷ (48 + n % 10000 % 100 % 10) ∷ []
ten_thousands n a b =
    let more : 100 ≤ n = omega (arith, a) in
    let hundred : 100 ≤ n / 100 = omega (arith, a) in
    let small : n / 100 < 2 ^ 64 = omega (arith, b) in
    let p : n / 100 / 100 ≡ n / 10000 = omega arith in
    let q : n / 100 % 100 ≡ n % 10000 / 100 = omega arith in
    let r : n % 100 ≡ n % 10000 % 100 = omega arith in
    hundreds n more b
    ∙ ap (λ d. d ++ (48 + n % 100 / 10) ∷ (48 + n % 100 % 10) ∷ []) (hundreds (n / 100) hundred small)
    ∙ append_assoc (decimal (n / 100 / 100)) ((48 + n / 100 % 100 / 10) ∷ (48 + n / 100 % 100 % 10) ∷ []) ((48 + n % 100 / 10) ∷ (48 + n % 100 % 10) ∷ [])
    ∙ ap (λ h. decimal h ++ (48 + n / 100 % 100 / 10) ∷ (48 + n / 100 % 100 % 10) ∷ (48 + n % 100 / 10) ∷ (48 + n % 100 % 10) ∷ []) p
    ∙ ap (λ t. decimal (n / 10000) ++ (48 + t / 10) ∷ (48 + t % 10) ∷ (48 + n % 100 / 10) ∷ (48 + n % 100 % 10) ∷ []) q
    ∙ ap (λ u. decimal (n / 10000) ++ (48 + n % 10000 / 100 / 10) ∷ (48 + n % 10000 / 100 % 10) ∷ (48 + u / 10) ∷ (48 + u % 10) ∷ []) r
