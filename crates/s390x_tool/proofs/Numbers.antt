-- Numbers in decimal without leading zeros, against what `parse` reads.
use Rattle.std.proofs.Common.{◌≡◌, ℕ, ◌^◌, ◌<◌, List, refl, sym, ◌∙◌, ap, arith, Ok, Result, zero, suc}
use Rattle.std.specs.Fmt.{decimal}
use Rattle.std.specs.Str.Parse.{AllDigits, digits_value, ParsesUnsigned}
use Rattle.std.proofs.lemmas.Str.Parse.{IsNumeralModel, without_leading_plus_none}
use Rattle.std.proofs.lemmas.Fmt.{decimal-digits_value, first_decimal, decimal_digit}
use Rattle.std.proofs.lemmas.Result.{OkIff-at_ok}
use Rattle.s390x_tool.specs.Words.{IsPlain}

own : IsNumeralModel (AllDigits 10) (digits_value 10)
own = record { to = λ ds h. h; from = λ ds h. h; same = λ ds h. refl }

-- a number is written without a sign and without leading zeros
pub IsPlain-decimal : (n : ℕ) → n < 2 ^ 64 → IsPlain (decimal n)
IsPlain-decimal zero small = rw (decimal_digit 0 (omega arith)) (λ e. omega arith, λ e. refl)
IsPlain-decimal (suc n) small =
    let first = first_decimal (suc n) (omega arith) small in
    (λ e. omega arith, λ e. absurd (omega arith))

-- what is read from a text without a sign and leading zeros, the text writes
pub decimal-from_parse : {E : Type 0} (text : List ℕ) (r : Result ℕ E) (n : ℕ) → IsPlain text → ParsesUnsigned 64 10 text r → r ≡ Ok n → text ≡ decimal n
decimal-from_parse text r n plain parses ok =
    let found = OkIff-at_ok r _ _ n parses ok in
    let digits = rw (without_leading_plus_none text plain.0) at found in
    sym (decimal-digits_value own text digits.0.0.1 digits.0.0.0 plain.1 digits.0.1) ∙ ap decimal (sym digits.1)
