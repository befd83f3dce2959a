-- Notes that are appended one by one.
use Rattle.std.proofs.Common.{◌≡◌, ℕ, ◌+◌, ◌<◌, List, [], ◌∷◌, ◌++◌, length, get_or, drop, map, sym, ap, ◌∙◌, refl, append_assoc}
use Rattle.std.proofs.lemmas.List.{drop_more}
use Rattle.std.specs.Prelude.{codes}
use Rattle.s390x_disassembler.specs.declared.noted.Note.{Note}
use Rattle.s390x_binary_tool.specs.Notes.{constant_notes, placed_note, plain_note}

-- the element at an index, and those behind it
pub item : {A : Type 0} (xs : List A) (i : ℕ) (z d : A) → i < length xs → d ≡ get_or xs i z → drop i xs ≡ d ∷ drop (i + 1) xs
item xs i z d h e = drop_more xs i z h ∙ ap (λ y. y ∷ drop (i + 1) xs) (sym e)

pub pushed : (ns : List Note) (n : Note) → map plain_note (ns ++ n ∷ []) ≡ map plain_note ns ++ plain_note n ∷ []
pushed [] n = refl
pushed (m ∷ ms) n = ap (λ t. plain_note m ∷ t) (pushed ms n)

-- some more, with which what was left begins
pub went : (old out new more left rest : List (ℕ × List ℕ)) → new ≡ out ++ more → left ≡ more ++ rest → out ++ left ≡ old → new ++ rest ≡ old
went old out new more left rest n l inv = ap (λ t. t ++ rest) n ∙ append_assoc out more rest ∙ ap (λ t. out ++ t) (sym l) ∙ inv

-- what is left of a list is an element and those behind it
pub mapped : {A : Type 0} (f : A → ℕ × List ℕ) (xs : List A) (i : ℕ) (z d : A) → i < length xs → d ≡ get_or xs i z → map f (drop i xs) ≡ f d ∷ map f (drop (i + 1) xs)
mapped f xs i z d h e = ap (map f) (item xs i z d h e)

-- the same of constants
pub constants_left : (base : ℕ) (ss : List ℕ) (i : ℕ) (z s : ℕ) → i < length ss → s ≡ get_or ss i z
    → constant_notes base i (drop i ss) ≡ placed_note (codes "const") base i s ∷ constant_notes base (i + 1) (drop (i + 1) ss)
constants_left base ss i z s h e = ap (constant_notes base i) (item ss i z s h e)
