-- What is written behind a text that was cut is cut once.
use Rattle.std.proofs.Common.{◌≡◌, ℕ, zero, suc, ◌+◌, ◌<◌, ◌≤◌, Bool, true, false, if◌then◌else◌, List, [], ◌∷◌, ◌++◌, length, take, drop, get_or, refl, sym, ap, ◌∙◌, append_assoc, append-nil, arith}
use lib.Seq.{drop-cons}
use Rattle.s390x_format.specs.declared.fields.Fields.{Fields}
use Rattle.s390x_disassembler.specs.declared.forms.Operand.{Operand}
use Rattle.s390x_disassembler.specs.Text.{is_written, operand_text, operands_text}
use Rattle.s390x_disassembler.specs.Fitted.{Adds, fitting_text}

cut_again : (n : ℕ) (xs ys : List ℕ) → take n (take n xs ++ ys) ≡ take n (xs ++ ys)
cut_again zero xs ys = refl
cut_again (suc n) [] ys = refl
cut_again (suc n) (x ∷ xs) ys = ap (λ l. x ∷ l) (cut_again n xs ys)

pub whole : (n : ℕ) (xs : List ℕ) → length xs ≤ n → take n xs ≡ xs
whole zero [] h = refl
whole zero (x ∷ xs) h = absurd (omega arith)
whole (suc n) [] h = refl
whole (suc n) (x ∷ xs) h = ap (λ l. x ∷ l) (whole n xs (omega arith))

cut_off : (n : ℕ) (xs ys : List ℕ) → n ≤ length xs → take n xs ≡ take n (xs ++ ys)
cut_off zero xs ys h = refl
cut_off (suc n) [] ys h = absurd (omega arith)
cut_off (suc n) (x ∷ xs) ys h = ap (λ l. x ∷ l) (cut_off n xs ys (omega arith))

-- a text that has room
pub fits : (text : List ℕ) → length text ≤ 96 → fitting_text text ≡ text
fits text h = whole 96 text h

-- where there is no room, nothing is added
pub no_room : (before text : List ℕ) → 96 ≤ length before → Adds before text before
no_room before text h = cut_off 96 before text h

-- nothing is added
pub nothing : (before : List ℕ) → Adds before [] before
nothing before = ap (λ l. take 96 l) (sym (append-nil before))

-- one text and then another
pub both : (before mid after first second : List ℕ) → Adds before first mid → Adds mid second after → Adds before (first ++ second) after
both before mid after first second p q =
    q
    ∙ sym (cut_again 96 mid second)
    ∙ ap (λ l. take 96 (l ++ second)) p
    ∙ cut_again 96 (before ++ first) second
    ∙ ap (λ l. take 96 l) (append_assoc before first second)

-- a byte and then a text
pub byte_then : (before mid after rest : List ℕ) (byte : ℕ) → Adds before (byte ∷ []) mid → Adds mid rest after → Adds before (byte ∷ rest) after
byte_then before mid after rest byte p q = both before mid after (byte ∷ []) rest p q

-- what stands behind a text that is added
pub behind : (before after text rest : List ℕ) → Adds before text after → fitting_text (after ++ rest) ≡ fitting_text (before ++ (text ++ rest))
behind before after text rest p =
    sym (cut_again 96 after rest)
    ∙ ap (λ l. take 96 (l ++ rest)) p
    ∙ cut_again 96 (before ++ text) rest
    ∙ ap (λ l. take 96 l) (append_assoc before text rest)

-- a text that was cut, and more
pub same_then : (cut text rest : List ℕ) → fitting_text cut ≡ fitting_text text → fitting_text (cut ++ rest) ≡ fitting_text (text ++ rest)
same_then cut text rest p = sym (cut_again 96 cut rest) ∙ ap (λ l. take 96 (l ++ rest)) p ∙ cut_again 96 text rest

-- the first of the items that are left, and the others
pub drop_next : {A : Type 0} (xs : List A) (i : ℕ) (d : A) → i < length xs → drop i xs ≡ get_or xs i d ∷ drop (i + 1) xs
drop_next xs i d lt = drop-cons xs i d lt ∙ ap (λ (k : ℕ). get_or xs i d ∷ drop k xs) {x = suc i} {y = i + 1} (omega arith)

-- an operand is written, and the others are left
pub written_next : (out mid after : List ℕ) (separator a : ℕ) (letters : List ℕ) (f : Fields) (o : Operand) (os : List Operand) → is_written letters f o ≡ true → Adds out (separator ∷ []) mid → Adds mid (operand_text a f o) after → fitting_text (after ++ operands_text 44 a letters f os) ≡ fitting_text (out ++ operands_text separator a letters f (o ∷ os))
written_next out mid after separator a letters f o os written p q =
    behind out after (separator ∷ operand_text a f o) (operands_text 44 a letters f os) (byte_then out mid after (operand_text a f o) separator p q)
    ∙ ap (λ (b : Bool). fitting_text (out ++ (if b then separator ∷ (operand_text a f o ++ operands_text 44 a letters f os) else operands_text separator a letters f os))) (sym written)

-- an operand isn't written
pub left_away : (out : List ℕ) (separator a : ℕ) (letters : List ℕ) (f : Fields) (o : Operand) (os : List Operand) → is_written letters f o ≡ false → fitting_text (out ++ operands_text separator a letters f os) ≡ fitting_text (out ++ operands_text separator a letters f (o ∷ os))
left_away out separator a letters f o os away =
    ap (λ (b : Bool). fitting_text (out ++ (if b then separator ∷ (operand_text a f o ++ operands_text 44 a letters f os) else operands_text separator a letters f os))) (sym away)

-- a short line that is what was written of a text is the text
pub fitted_same : (line written text : List ℕ) → fitting_text written ≡ fitting_text text → length line < 96 → line ≡ written → line ≡ text
fitted_same line written text fits short e =
    let small : length written < 96 = omega (arith, short, ap length e) in
    let cut : take 96 text ≡ line = sym fits ∙ whole 96 written (omega (arith, small)) ∙ sym e in
    sym cut ∙ short_whole 96 text (omega (arith, short, ap length cut))
  where
    short_whole : (n : ℕ) (xs : List ℕ) → length (take n xs) < n → take n xs ≡ xs
    short_whole zero xs h = absurd (omega arith)
    short_whole (suc n) [] h = refl
    short_whole (suc n) (x ∷ xs) h = ap (λ l. x ∷ l) (short_whole n xs (omega (arith, h)))

-- and the text, where it is short, is what was written of it
pub same_fitted : (line written text : List ℕ) → fitting_text written ≡ fitting_text text → length line < 96 → length written ≤ 96 → line ≡ text → line ≡ written
same_fitted line written text fits short room e =
    sym (whole 96 line (omega (arith, short))) ∙ ap (λ l. take 96 l) e ∙ sym fits ∙ whole 96 written room
