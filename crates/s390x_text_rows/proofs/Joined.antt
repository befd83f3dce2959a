-- Texts that are appended one behind the other.
use Rattle.std.proofs.Common.{◌≡◌, ℕ, ◌+◌, ◌<◌, List, ◌∷◌, ◌++◌, length, get_or, drop, sym, ap, ◌∙◌, append_assoc}
use Rattle.std.proofs.lemmas.List.{drop_more}

pub joined_one : (a b old mid new : List ℕ) → mid ≡ old ++ a → new ≡ mid ++ b → new ≡ old ++ (a ++ b)
joined_one a b old mid new p q = q ∙ ap (λ m. m ++ b) p ∙ append_assoc old a b

pub joined_two : (a r b old mid new : List ℕ) → mid ≡ old ++ (a ++ r) → new ≡ mid ++ b → new ≡ old ++ (a ++ (r ++ b))
joined_two a r b old mid new p q =
    q ∙ ap (λ m. m ++ b) p ∙ append_assoc old (a ++ r) b ∙ ap (λ t. old ++ t) (append_assoc a r b)

pub joined_halves : (a b c d old mid new : List ℕ) → mid ≡ old ++ (a ++ b) → new ≡ mid ++ (c ++ d) → new ≡ old ++ ((a ++ (b ++ c)) ++ d)
joined_halves a b c d old mid new p q =
    q ∙ ap (λ m. m ++ (c ++ d)) p ∙ append_assoc old (a ++ b) (c ++ d)
    ∙ ap (λ t. old ++ t) (append_assoc a b (c ++ d) ∙ ap (λ t. a ++ t) (sym (append_assoc b c d)) ∙ sym (append_assoc a (b ++ c) d))

-- a loop that prints each element of a list
pub more_texts : {X : Type 0} (F : List X → List ℕ) (g : X → List ℕ) → ((x : X) (xs : List X) → F (x ∷ xs) ≡ g x ++ F xs) → (xs : List X) (i : ℕ) (z d : X) (old out new : List ℕ) → i < length xs → d ≡ get_or xs i z → new ≡ out ++ g d → out ++ F (drop i xs) ≡ old → new ++ F (drop (i + 1) xs) ≡ old
more_texts F g law xs i z d old out new h e n inv =
    let rest = F (drop (i + 1) xs) in
    let a : F (drop i xs) ≡ g d ++ rest = ap F (drop_more xs i z h) ∙ law (get_or xs i z) (drop (i + 1) xs) ∙ ap (λ y. g y ++ rest) (sym e) in
    ap (λ t. t ++ rest) n ∙ append_assoc out (g d) rest ∙ ap (λ t. out ++ t) (sym a) ∙ inv
