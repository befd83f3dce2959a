-- Words tell their command.
use Rattle.std.proofs.Common.{◌≡◌, ℕ, inl, inr, List, [], ◌∷◌, Some, None, sym, ap, ◌∙◌, arith, get_or, length, cond}
use Rattle.std.specs.Prelude.{Option, codes, ◌≢◌}
use Rattle.std.specs.Str.{bytes_eq}
use Rattle.std.specs.Str.Parse.{digits_value}
use Rattle.std.proofs.lemmas.Fmt.{decimal_is_IsNumeral}
use Rattle.s390x_binary_tool.specs.Words.{IsForm, IsInRange, IsNoForm, IsSpelled}
use Rattle.s390x_binary_tool.specs.declared.words.Command.{Command}
use Rattle.s390x_binary_tool.specs.declared.words.Command.TheVariants.{Refusal, Verify, Disassemble, Assemble, Listing, Object, Objects}

-- the command with a number
abbrev told_with_base : List ℕ → ℕ → Option Command
told_with_base w n =
    cond (bytes_eq w (codes "verify")) (Some (Verify n))
    (cond (bytes_eq w (codes "disassemble")) (Some (Disassemble n)) (cond (bytes_eq w (codes "assemble")) (Some (Assemble n)) (cond (bytes_eq w (codes "list")) (Some (Listing n)) None)))

-- the command that words tell: the first one its name, the other its number
abbrev told : List (List ℕ) → Option Command
told (w ∷ []) = cond (bytes_eq w (codes "refusal")) (Some Refusal) (cond (bytes_eq w (codes "object")) (Some Object) (cond (bytes_eq w (codes "objects")) (Some Objects) None))
told (w ∷ x ∷ []) = cond (bytes_eq w (codes "object")) (Some Object) (told_with_base w (digits_value 10 x))
told words = None

-- the words of a command tell it
told_back : (c : Command) (words : List (List ℕ)) → IsSpelled c words → IsInRange c → told words ≡ Some c
told_back Refusal words is range = ap told is
told_back (Verify base) words is range = ap told is ∙ ap (λ n. Some (Verify n)) (decimal_is_IsNumeral base range).1
told_back (Disassemble base) words is range = ap told is ∙ ap (λ n. Some (Disassemble n)) (decimal_is_IsNumeral base range).1
told_back (Assemble base) words is range = ap told is ∙ ap (λ n. Some (Assemble n)) (decimal_is_IsNumeral base range).1
told_back (Listing base) words is range = ap told is ∙ ap (λ n. Some (Listing n)) (decimal_is_IsNumeral base range).1
told_back Object words (inl is) range = ap told is
told_back Object words (inr is) range = ap told is
told_back Objects words is range = ap told is

one_of : (b c : Command) → Some b ≡ Some c → b ≡ c
one_of b c e = cc

-- words are one command
pub same_command : (words : List (List ℕ)) (b c : Command) → IsForm words b → IsForm words c → b ≡ c
same_command words b c first second = one_of b c (sym (told_back b words first.spelled first.range) ∙ told_back c words second.spelled second.range)

-- a word alone that is no command's
pub none_alone : (w : List ℕ) → w ≢ codes "refusal" → w ≢ codes "object" → w ≢ codes "objects" → IsNoForm (w ∷ [])
none_alone w no_refusal no_object no_objects Refusal form = no_refusal (ap (λ ws. get_or ws 0 []) form.spelled)
none_alone w no_refusal no_object no_objects Object form = elim form.spelled [
  | inl is ↦ no_object (ap (λ ws. get_or ws 0 []) is)
  | inr is ↦ absurd (omega (arith, ap length is))
]
none_alone w no_refusal no_object no_objects Objects form = no_objects (ap (λ ws. get_or ws 0 []) form.spelled)
none_alone w no_refusal no_object no_objects c form = absurd (omega (arith, ap length form.spelled))

-- as many words as no command has
pub none_of_length : (words : List (List ℕ)) → length words ≢ 1 → length words ≢ 2 → IsNoForm words
none_of_length words one two Refusal form = one (ap length form.spelled)
none_of_length words one two Object form = elim form.spelled [
  | inl is ↦ one (ap length is)
  | inr is ↦ two (ap length is)
]
none_of_length words one two Objects form = one (ap length form.spelled)
none_of_length words one two c form = two (ap length form.spelled)
