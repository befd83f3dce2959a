-- Words tell their command.
use Rattle.std.proofs.Common.{◌≡◌, ℕ, ◌^◌, ◌<◌, ◌≤◌, List, [], ◌∷◌, Some, None, refl, sym, ap, ap₂, ◌∙◌, arith, get_or, length, cond}
use Rattle.std.specs.Prelude.{Option, codes}
use Rattle.std.specs.Fmt.{decimal}
use Rattle.std.specs.Str.{bytes_eq}
use Rattle.std.specs.Str.Parse.{digits_value}
use Rattle.std.proofs.lemmas.Fmt.{decimal_is_IsNumeral}
use Rattle.std.specs.String.{string_bytes}
use Rattle.std.specs.declared.string.String.{String}
use Rattle.s390x_tool.specs.Words.{IsForm, IsInRange, IsNoForm, texts, words_of}
use Rattle.s390x_tool.specs.declared.words.Command.{Command}
use Rattle.s390x_tool.specs.declared.words.Command.TheVariants.{OnJob, Generate, Simulate, Allocate, Bundle}
use Rattle.s390x_tool.specs.declared.words.JobCommand.TheVariants.{Image, Emit, Run, Operands, Show}

-- the command that words tell: the first one its name, the others its numbers
abbrev told : List (List ℕ) → Option Command
told (w ∷ []) =
    cond (bytes_eq w (codes "emit")) (Some (OnJob Emit)) (cond (bytes_eq w (codes "operands")) (Some (OnJob Operands)) (cond (bytes_eq w (codes "show")) (Some (OnJob Show)) (cond (bytes_eq w (codes "alloc")) (Some Allocate) None)))
told (w ∷ x ∷ []) = cond (bytes_eq w (codes "image")) (Some (OnJob (Image (digits_value 10 x)))) (cond (bytes_eq w (codes "bundle")) (Some (Bundle (digits_value 10 x))) None)
told (w ∷ x ∷ y ∷ []) =
    cond (bytes_eq w (codes "run")) (Some (OnJob (Run (digits_value 10 x) (digits_value 10 y))))
    (cond (bytes_eq w (codes "gen")) (Some (Generate (digits_value 10 x) (digits_value 10 y))) None)
told (w ∷ b ∷ a ∷ n ∷ s ∷ x ∷ []) =
    cond (bytes_eq w (codes "smp")) (Some (Simulate (digits_value 10 b) (digits_value 10 a) (digits_value 10 n) (digits_value 10 s) (digits_value 10 x))) None
told words = None

-- the words of a command tell it
told_back : (c : Command) → IsInRange c → told (words_of c) ≡ Some c
told_back (OnJob (Image base)) range = ap (λ n. Some (OnJob (Image n))) (decimal_is_IsNumeral base range).1
told_back (OnJob (Run base steps)) range =
    let small : steps < 2 ^ 64 = omega (arith, range.1) in
    ap₂ (λ m n. Some (OnJob (Run m n))) (decimal_is_IsNumeral base range.0).1 (decimal_is_IsNumeral steps small).1
told_back (Generate count start) range =
    let few : count < 2 ^ 64 = omega (arith, range.0) in
    let small : start < 2 ^ 64 = omega (arith, range.1) in
    ap₂ (λ m n. Some (Generate m n)) (decimal_is_IsNumeral count few).1 (decimal_is_IsNumeral start small).1
told_back (Simulate base word count steps start) range =
    let few : count < 2 ^ 64 = omega (arith, range.3) in
    let short : steps < 2 ^ 64 = omega (arith, range.4) in
    let small : start < 2 ^ 64 = omega (arith, range.5) in
    ap₂ (λ m n. Some (Simulate m n (digits_value 10 (decimal count)) (digits_value 10 (decimal steps)) (digits_value 10 (decimal start)))) (decimal_is_IsNumeral base range.0).1 (decimal_is_IsNumeral word range.1).1
    ∙ ap₂ (λ m n. Some (Simulate base word m n (digits_value 10 (decimal start)))) (decimal_is_IsNumeral count few).1 (decimal_is_IsNumeral steps short).1
    ∙ ap (λ n. Some (Simulate base word count steps n)) (decimal_is_IsNumeral start small).1
told_back (Bundle base) range = ap (λ n. Some (Bundle n)) (decimal_is_IsNumeral base range).1
told_back c range = refl

one_of : (b c : Command) → Some b ≡ Some c → b ≡ c
one_of b c e = cc

-- words are one command
pub same_command : (words : List (List ℕ)) (b c : Command) → IsForm words b → IsForm words c → b ≡ c
same_command words b c first second =
    one_of b c (sym (told_back b first.range) ∙ ap told (sym first.spelled ∙ second.spelled) ∙ told_back c second.range)

-- the first letter of the first word
abbrev letter : List (List ℕ) → ℕ
letter ws = get_or (get_or ws 0 []) 0 0

-- `run` with words that aren't its numbers
pub none_of_run : (x y : List ℕ) → ((m n : ℕ) → m < 2 ^ 64 → n ≤ 1000000 → x ≡ decimal m → y ≡ decimal n → ⊥) → IsNoForm (codes "run" ∷ x ∷ y ∷ [])
none_of_run x y none (OnJob (Run base steps)) form =
    none base steps form.range.0 form.range.1 (ap (λ ws. get_or ws 1 []) form.spelled) (ap (λ ws. get_or ws 2 []) form.spelled)
none_of_run x y none (Generate count start) form = absurd (omega (arith, ap letter form.spelled))
none_of_run x y none c form = absurd (omega (arith, ap length form.spelled))

-- `gen` with words that aren't its numbers
pub none_of_generate : (x y : List ℕ) → ((m n : ℕ) → m ≤ 100000 → n < 2 ^ 32 → x ≡ decimal m → y ≡ decimal n → ⊥) → IsNoForm (codes "gen" ∷ x ∷ y ∷ [])
none_of_generate x y none (Generate count start) form =
    none count start form.range.0 form.range.1 (ap (λ ws. get_or ws 1 []) form.spelled) (ap (λ ws. get_or ws 2 []) form.spelled)
none_of_generate x y none (OnJob (Run base steps)) form = absurd (omega (arith, ap letter form.spelled))
none_of_generate x y none c form = absurd (omega (arith, ap length form.spelled))

-- `smp` with words that aren't its numbers
pub none_of_simulation : (b a n s x : List ℕ) → ((base word count steps start : ℕ) → IsInRange (Simulate base word count steps start) → b ≡ decimal base → a ≡ decimal word → n ≡ decimal count → s ≡ decimal steps → x ≡ decimal start → ⊥)
    → IsNoForm (codes "smp" ∷ b ∷ a ∷ n ∷ s ∷ x ∷ [])
none_of_simulation b a n s x none (Simulate base word count steps start) form =
    none base word count steps start form.range (ap (λ ws. get_or ws 1 []) form.spelled) (ap (λ ws. get_or ws 2 []) form.spelled) (ap (λ ws. get_or ws 3 []) form.spelled)
    (ap (λ ws. get_or ws 4 []) form.spelled) (ap (λ ws. get_or ws 5 []) form.spelled)
none_of_simulation b a n s x none (OnJob Emit) form = absurd (omega (arith, ap length form.spelled))
none_of_simulation b a n s x none c form = absurd (omega (arith, ap length form.spelled))

-- six words, each by its number
pub six_words : {Z : Type 0} (ws : List (String Z)) (a b c d e f : String Z) → 6 ≤ length ws → length ws < 7 → a ≡ get_or ws 0 a → b ≡ get_or ws 1 b → c ≡ get_or ws 2 c → d ≡ get_or ws 3 d → e ≡ get_or ws 4 e → f ≡ get_or ws 5 f
    → texts ws ≡ string_bytes a ∷ string_bytes b ∷ string_bytes c ∷ string_bytes d ∷ string_bytes e ∷ string_bytes f ∷ []
six_words (a ∷ b ∷ c ∷ d ∷ e ∷ f ∷ []) a' b' c' d' e' f' most least p q r s t u = rw p (rw q (rw r (rw s (rw t (rw u refl)))))
six_words (u ∷ v ∷ x ∷ y ∷ z ∷ w ∷ g ∷ ws) a b c d e f most least p q r s t o = absurd (omega (arith, least))
six_words ws a b c d e f most least p q r s t u = absurd (omega (arith, most))
