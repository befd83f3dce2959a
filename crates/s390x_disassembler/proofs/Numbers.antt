-- Numbers that are written are read again.
use Rattle.std.proofs.Common.{◌≡◌, ℕ, zero, suc, ◌+◌, ◌-◌, ◌*◌, ◌%◌, ◌^◌, ◌<◌, ◌≤◌, Bool, true, false, ◌||◌, ◌==◌, nat_lt, lt-ltb, le-ltb, ne_eqb, if◌then◌else◌, List, [], ◌∷◌, ◌++◌, length, drop, get_or, drop_of_length-le, refl, sym, ap, subst, ◌∙◌, arith, inl, inr}
use Rattle.std.specs.Prelude.{ℤ, pos, negsuc}
use Rattle.std.specs.Char.{digit_value, is_digit}
use Rattle.std.specs.Fmt.{decimal, signed_decimal, digits}
use Rattle.std.specs.Str.Parse.{AllDigits, digits_value_after}
use Rattle.std.specs.Int.{cast_unsigned}
use mir.Syntax.{w64}
use lib.Signed.{mag}
use Rattle.std.proofs.lemmas.Fmt.{decimal_is_IsNumeral, digits_is_IsNumeral}
use Rattle.std.proofs.Math.Nat.{le-mul_of_pos_right}
use Rattle.std.proofs.lemmas.Bool.{cases_lt}
use Rattle.std.proofs.lemmas.Str.Parse.{digit_from_value}
use Rattle.s390x_disassembler.specs.Numbers.{digits_read, digits_left, begins_number, number_on, signed_read, signed_left, IsStop}

-- a choice
pub if_yes : {A : Type 0} (b : Bool) (x y : A) → b ≡ true → (if b then x else y) ≡ x
if_yes true x y e = refl
if_yes false x y e = cc

pub if_no : {A : Type 0} (b : Bool) (x y : A) → b ≡ false → (if b then x else y) ≡ y
if_no true x y e = cc
if_no false x y e = refl

not_below : (a b : ℕ) → (a < b → ⊥) → nat_lt a b ≡ false
not_below a b h = elim (cases_lt a b) [
  | inl lt ↦ absurd (h lt)
  | inr le ↦ le-ltb a b le
]

grows : (radix n : ℕ) (ds : List ℕ) → 1 ≤ radix → n ≤ digits_value_after radix n ds
grows radix n [] h = omega arith
grows radix n (c ∷ cs) h =
    let more : n ≤ n * radix = grind (arith, h, le-mul_of_pos_right) in
    omega (arith, more, grows radix (n * radix + digit_value c) cs h)

pub digits_again : (radix n : ℕ) (ds rest : List ℕ) → 1 ≤ radix → AllDigits radix ds → IsStop radix rest → digits_value_after radix n ds < 2 ^ 64 → digits_read radix n (ds ++ rest) ≡ digits_value_after radix n ds
unfolding digits_read
digits_again radix n [] [] h d stop small = refl
digits_again radix n [] (c ∷ rest) h d stop small = if_no (is_digit c radix) _ n stop
digits_again radix n (c ∷ ds) rest h d stop small =
    let low : n * radix + digit_value c < 2 ^ 64 = omega (arith, small, grows radix (n * radix + digit_value c) ds h) in
    let same : (n * radix % 2 ^ 64 + digit_value c) % 2 ^ 64 ≡ n * radix + digit_value c = omega (arith, low) in
    if_yes (is_digit c radix) _ n (lt-ltb (digit_value c) radix d.0) ∙ ap (λ (m : ℕ). digits_read radix m (ds ++ rest)) same ∙ digits_again radix (n * radix + digit_value c) ds rest h d.1 stop small

pub digits_behind : (radix : ℕ) (ds rest : List ℕ) → AllDigits radix ds → IsStop radix rest → digits_left radix (ds ++ rest) ≡ rest
unfolding digits_left
digits_behind radix [] [] d stop = refl
digits_behind radix [] (c ∷ rest) d stop = if_no (is_digit c radix) _ (c ∷ rest) stop
digits_behind radix (c ∷ ds) rest d stop = if_yes (is_digit c radix) _ _ (lt-ltb (digit_value c) radix d.0) ∙ digits_behind radix ds rest d.1 stop

-- one byte of a text
pub read_step : (radix n i : ℕ) (text : List ℕ) → i < length text → digit_value (get_or text i 0) < radix → digits_read radix n (drop i text) ≡ digits_read radix ((n * radix % 2 ^ 64 + digit_value (get_or text i 0)) % 2 ^ 64) (drop (i + 1) text)
unfolding digits_read
read_step radix n i [] lt d = absurd (omega arith)
read_step radix n zero (c ∷ text) lt d = if_yes (is_digit c radix) _ n (lt-ltb (digit_value c) radix d)
read_step radix n (suc i) (c ∷ text) lt d = let e : suc (i + 1) ≡ suc i + 1 = omega arith in read_step radix n i text (omega (arith, lt)) d ∙ ap (λ (k : ℕ). digits_read radix ((n * radix % 2 ^ 64 + digit_value (get_or text i 0)) % 2 ^ 64) (drop k (c ∷ text))) e

pub read_stop : (radix n i : ℕ) (text : List ℕ) → i < length text → (digit_value (get_or text i 0) < radix → ⊥) → digits_read radix n (drop i text) ≡ n
unfolding digits_read
read_stop radix n i [] lt d = absurd (omega arith)
read_stop radix n zero (c ∷ text) lt d = if_no (is_digit c radix) _ n (not_below (digit_value c) radix d)
read_stop radix n (suc i) (c ∷ text) lt d = read_stop radix n i text (omega arith) d

pub left_step : (radix i : ℕ) (text : List ℕ) → i < length text → digit_value (get_or text i 0) < radix → digits_left radix (drop i text) ≡ digits_left radix (drop (i + 1) text)
unfolding digits_left
left_step radix i [] lt d = absurd (omega arith)
left_step radix zero (c ∷ text) lt d = if_yes (is_digit c radix) _ (c ∷ text) (lt-ltb (digit_value c) radix d)
left_step radix (suc i) (c ∷ text) lt d = let e : suc (i + 1) ≡ suc i + 1 = omega arith in left_step radix i text (omega (arith, lt)) d ∙ ap (λ (k : ℕ). digits_left radix (drop k (c ∷ text))) e

pub left_stop : (radix i : ℕ) (text : List ℕ) → i < length text → (digit_value (get_or text i 0) < radix → ⊥) → digits_left radix (drop i text) ≡ drop i text
unfolding digits_left
left_stop radix i [] lt d = absurd (omega arith)
left_stop radix zero (c ∷ text) lt d = if_no (is_digit c radix) _ (c ∷ text) (not_below (digit_value c) radix d)
left_stop radix (suc i) (c ∷ text) lt d = left_stop radix i text (omega arith) d

pub start_step : (i : ℕ) (text : List ℕ) → i < length text → begins_number (get_or text i 0) ≡ false → number_on (drop i text) ≡ number_on (drop (i + 1) text)
unfolding number_on
start_step i [] lt d = absurd (omega arith)
start_step zero (c ∷ text) lt d = if_no (begins_number c) (c ∷ text) _ d
start_step (suc i) (c ∷ text) lt d = let e : suc (i + 1) ≡ suc i + 1 = omega arith in start_step i text (omega (arith, lt)) d ∙ ap (λ (k : ℕ). number_on (drop k (c ∷ text))) e

pub start_here : (i : ℕ) (text : List ℕ) → i < length text → begins_number (get_or text i 0) ≡ true → number_on (drop i text) ≡ drop i text
unfolding number_on
start_here i [] lt d = absurd (omega arith)
start_here zero (c ∷ text) lt d = if_yes (begins_number c) (c ∷ text) _ d
start_here (suc i) (c ∷ text) lt d = start_here i text (omega arith) d

-- some bytes that begin no number
abbrev pub NoNumber : List ℕ → Type 0
NoNumber [] = Unit {0}
NoNumber (c ∷ cs) = (begins_number c ≡ false) × NoNumber cs

pub skip_prefix : (p text : List ℕ) → NoNumber p → number_on (p ++ text) ≡ number_on text
unfolding number_on
skip_prefix [] text h = refl
skip_prefix (c ∷ p) text h = if_no (begins_number c) _ _ h.0 ∙ skip_prefix p text h.1

-- a decimal number begins with a digit
digit_begins : (c : ℕ) → digit_value c < 10 → begins_number c ≡ true
digit_begins c lt = ap (λ (b : Bool). b || (c == 45)) (lt-ltb (digit_value c) 10 lt)

not_minus : (c : ℕ) → digit_value c < 10 → (c == 45) ≡ false
not_minus c lt = let r = digit_from_value c lt in ne_eqb c 45 (λ e. omega (arith, r.0, e))

on_digits : (ds rest : List ℕ) → 0 < length ds → AllDigits 10 ds → number_on (ds ++ rest) ≡ ds ++ rest
unfolding number_on
on_digits [] rest some d = absurd (omega arith)
on_digits (c ∷ ds) rest some d = if_yes (begins_number c) _ _ (digit_begins c d.0)

read_plain : (ds rest : List ℕ) → 0 < length ds → AllDigits 10 ds → signed_read (ds ++ rest) ≡ digits_read 10 0 (ds ++ rest)
unfolding signed_read
read_plain [] rest some d = absurd (omega arith)
read_plain (c ∷ ds) rest some d = if_no (c == 45) _ _ (not_minus c d.0)

left_plain : (ds rest : List ℕ) → 0 < length ds → AllDigits 10 ds → signed_left (ds ++ rest) ≡ digits_left 10 (ds ++ rest)
unfolding signed_left
left_plain [] rest some d = absurd (omega arith)
left_plain (c ∷ ds) rest some d = if_no (c == 45) _ _ (not_minus c d.0)

-- what a number is read as behind bytes that begin none
pub record IsNumber (text rest : List ℕ) (n : ℕ) : Type 0 where
  pub value : signed_read (number_on text) ≡ n
  pub behind : signed_left (number_on text) ≡ rest

pub natural : (p rest : List ℕ) (n : ℕ) → NoNumber p → IsStop 10 rest → n < 2 ^ 64 → IsNumber (p ++ (decimal n ++ rest)) rest n
natural p rest n np stop small =
    let d = decimal_is_IsNumeral n small in
    let on : number_on (p ++ (decimal n ++ rest)) ≡ decimal n ++ rest = skip_prefix p (decimal n ++ rest) np ∙ on_digits (decimal n) rest d.0.0 d.0.1 in
    record {
      value = ap signed_read on ∙ read_plain (decimal n) rest d.0.0 d.0.1 ∙ digits_again 10 0 (decimal n) rest (omega arith) d.0.1 stop (subst (λ (m : ℕ). m < 2 ^ 64) (sym d.1) small) ∙ d.1;
      behind = ap signed_left on ∙ left_plain (decimal n) rest d.0.0 d.0.1 ∙ digits_behind 10 (decimal n) rest d.0.1 stop;
    }

negative : (p rest : List ℕ) (n : ℕ) → NoNumber p → IsStop 10 rest → suc n < 2 ^ 64 → IsNumber (p ++ (45 ∷ (decimal (suc n) ++ rest))) rest (2 ^ 64 - suc n)
unfolding signed_read signed_left number_on
negative p rest n np stop small =
    let d = decimal_is_IsNumeral (suc n) small in
    let on : number_on (p ++ (45 ∷ (decimal (suc n) ++ rest))) ≡ 45 ∷ (decimal (suc n) ++ rest) = skip_prefix p (45 ∷ (decimal (suc n) ++ rest)) np in
    let read : digits_read 10 0 (decimal (suc n) ++ rest) ≡ suc n = digits_again 10 0 (decimal (suc n)) rest (omega arith) d.0.1 stop (subst (λ (m : ℕ). m < 2 ^ 64) (sym d.1) small) ∙ d.1 in
    record {
      value = ap signed_read on ∙ ap (λ (m : ℕ). (2 ^ 64 - m) % 2 ^ 64) read ∙ omega arith;
      behind = ap signed_left on ∙ digits_behind 10 (decimal (suc n)) rest d.0.1 stop;
    }

pub integer : (p rest : List ℕ) (z : ℤ) → NoNumber p → IsStop 10 rest → mag z < 2 ^ 63 → IsNumber (p ++ (signed_decimal z ++ rest)) rest (cast_unsigned w64 z)
integer p rest (pos n) np stop small = natural p rest n np stop (omega (arith, small))
integer p rest (negsuc n) np stop small = negative p rest n np stop (omega (arith, small))

-- hexadecimal digits
pub record IsHexNumber (text rest : List ℕ) (n : ℕ) : Type 0 where
  pub value : digits_read 16 0 text ≡ n
  pub behind : digits_left 16 text ≡ rest

pub hexadecimal : (n : ℕ) (rest : List ℕ) → n < 2 ^ 64 → IsStop 16 rest → IsHexNumber (digits 16 false n ++ rest) rest n
hexadecimal n rest small stop =
    let d = digits_is_IsNumeral 16 false (omega arith) (omega arith) n (omega (arith, small)) in
    record {
      value = digits_again 16 0 (digits 16 false n) rest (omega arith) d.0.1 stop (subst (λ (m : ℕ). m < 2 ^ 64) (sym d.1) small) ∙ d.1;
      behind = digits_behind 16 (digits 16 false n) rest d.0.1 stop;
    }

-- the ends of the loops
pub left_end : (radix i : ℕ) (text m : List ℕ) → i < length text → (digit_value (get_or text i 0) < radix → ⊥) → digits_left radix (drop i text) ≡ m → drop i text ≡ m
left_end radix i text m lt d h = sym (left_stop radix i text lt d) ∙ h

pub read_done : (radix n i : ℕ) (text : List ℕ) (m : ℕ) → length text ≤ i → digits_read radix n (drop i text) ≡ m → n ≡ m
unfolding digits_read
read_done radix n i text m le h = ap (digits_read radix n) (sym (drop_of_length-le text le)) ∙ h

pub left_done : (radix i : ℕ) (text m : List ℕ) → length text ≤ i → digits_left radix (drop i text) ≡ m → [] ≡ m
unfolding digits_left
left_done radix i text m le h = ap (digits_left radix) (sym (drop_of_length-le text le)) ∙ h

pub start_done : (i : ℕ) (text m : List ℕ) → length text ≤ i → number_on (drop i text) ≡ m → drop (length text) text ≡ m
unfolding number_on
start_done i text m le h = drop_of_length-le text (omega arith) ∙ ap number_on (sym (drop_of_length-le text le)) ∙ h
