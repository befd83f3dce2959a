-- Items of two lists, one behind the other, and numbers from 10 to 19.
use Rattle.std.proofs.Common.{◌≡◌, ℕ, ◌+◌, ◌-◌, ◌/◌, ◌%◌, ◌<◌, ◌≤◌, ◌^◌, Bool, List, [], ◌∷◌, ◌++◌, Result, Ok, Err, refl, sym, ap, ◌∙◌, append_assoc, codes, decimal, arith}
use Rattle.std.proofs.lemmas.Fmt.{decimal_digit, decimal_step}
use Rattle.s390x_operands.specs.declared.constraint.Reported.{Reported}
use Rattle.s390x_operands.specs.declared.constraint.OperandError.{OperandError}
use Rattle.s390x_operands.specs.Visits.{Takes}
use Rattle.s390x_listing.specs.Operands.{item_text, more_items}

pub more_append : (xs ys : List Reported) → more_items (xs ++ ys) ≡ more_items xs ++ more_items ys
more_append [] ys = refl
more_append (x ∷ xs) ys =
    ap (λ t. codes ", " ++ (item_text x ++ t)) (more_append xs ys)
    ∙ ap (λ t. codes ", " ++ t) (sym (append_assoc (item_text x) (more_items xs) (more_items ys)))

-- what the second of two lists takes is taken behind the first
pub taken_behind : (denies : Bool) (x : Reported) (first before after : List Reported) (r : Result (Unit {0}) OperandError) → Takes denies x before after r → Takes denies x (first ++ before) (first ++ after) r
taken_behind denies x first before after (Ok u) t = (ap (λ l. first ++ l) t.0 ∙ sym (append_assoc first before (x ∷ [])), t.1)
taken_behind denies x first before after (Err e) t = (ap (λ l. first ++ l) t.0, t.1)

pub from_ten : (n : ℕ) → 10 ≤ n → n < 20 → decimal n ≡ 49 ∷ (48 + (n - 10)) ∷ []
from_ten n a b =
    let small : n < 2 ^ 64 = omega (arith, b) in
    let first : n / 10 < 10 = omega (arith, b) in
    let tens : n / 10 ≡ 1 = omega (arith, a, b) in
    let ones : n % 10 ≡ n - 10 = omega (arith, a, b) in
    decimal_step n a small
    ∙ ap (λ d. d ++ (48 + n % 10) ∷ []) (decimal_digit (n / 10) first)
    ∙ ap (λ t. (48 + t) ∷ (48 + n % 10) ∷ []) tens
    ∙ ap (λ d. 49 ∷ (48 + d) ∷ []) ones
