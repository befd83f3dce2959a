-- One more digit of a number.
use Rattle.std.proofs.Common.{◌≡◌, ℕ, ◌+◌, ◌*◌, ◌/◌, ◌%◌, ◌<◌, ◌^◌, List, [], ◌∷◌, ◌++◌, sym, ap, ◌∙◌, append_assoc, arith}
use Rattle.std.specs.Fmt.{decimal}
use Rattle.std.proofs.lemmas.Fmt.{decimal_digit, decimal_step}

step : (n d : ℕ) → 0 < n → d < 10 → n * 10 + d < 2 ^ 64 → decimal (n * 10 + d) ≡ decimal n ++ ((48 + d) ∷ [])
step n d p h b =
    let q : (n * 10 + d) / 10 ≡ n = omega arith in
    let r : (n * 10 + d) % 10 ≡ d = omega arith in
    decimal_step (n * 10 + d) (omega arith) b ∙ ap (λ k. decimal k ++ ((48 + (n * 10 + d) % 10) ∷ [])) q ∙ ap (λ k. decimal n ++ ((48 + k) ∷ [])) r

-- a text that begins with one digit
pub first_digit : (s : List ℕ) (d : ℕ) (t : List ℕ) → d < 10 → s ≡ (48 + d) ∷ t → s ≡ decimal d ++ t
first_digit s d t h e = e ∙ ap (λ x. x ++ t) (sym (decimal_digit d h))

-- a text that begins with a number and then a digit
pub next_digit : (s : List ℕ) (n : ℕ) (t : List ℕ) (d : ℕ) (u : List ℕ) → 0 < n → d < 10 → n * 10 + d < 2 ^ 64 → s ≡ decimal n ++ t → t ≡ (48 + d) ∷ u → s ≡ decimal (n * 10 + d) ++ u
next_digit s n t d u p h b e f =
    e ∙ ap (λ x. decimal n ++ x) f ∙ sym (append_assoc (decimal n) ((48 + d) ∷ []) u) ∙ ap (λ x. x ++ u) (sym (step n d p h b))
