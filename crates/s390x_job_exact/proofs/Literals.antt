-- A text that is taken byte by byte.
use Rattle.std.proofs.Common.{◌≡◌, ℕ, List, [], ◌∷◌, ◌++◌, ◌+◌, ◌<◌, take, length, sym, ap, ◌∙◌, append_assoc}
use Rattle.std.specs.Prelude.{get_or}
use Rattle.std.proofs.lemmas.List.{take_more}

pub one_more : (s text left rest : List ℕ) (i x d : ℕ) → i < length text → x ≡ get_or text i d → s ≡ take i text ++ left → left ≡ x ∷ rest → s ≡ take (i + 1) text ++ rest
one_more s text left rest i x d lt g h e =
    h ∙ ap (λ t. take i text ++ t) e ∙ sym (append_assoc (take i text) (x ∷ []) rest) ∙ ap (λ t. t ++ rest) (sym (take_more text i d lt ∙ ap (λ y. take i text ++ y ∷ []) (sym g)))
