-- The text of several lines.
use Rattle.std.proofs.Common.{◌≡◌, ℕ, List, [], ◌++◌, refl, sym, ap, ◌∙◌, append_assoc}
use Rattle.s390x_job.specs.Completions.{text_of_lines}
use Rattle.s390x_job_bundle.proofs.Lines.{joined_append}
pub use Rattle.s390x_job.proofs.Texts.{on_ok}

-- lines x and y were written after what stood; the code named them x' and y'
pub two_texts : (x x' y y' : List (List ℕ)) (old a new : List ℕ) → x' ≡ x → y' ≡ y
    → a ≡ old ++ text_of_lines x' → new ≡ a ++ text_of_lines y' → new ≡ old ++ text_of_lines (x ++ y)
two_texts x x' y y' old a new same_x same_y p q =
    q ∙ ap (λ t. t ++ text_of_lines y') p ∙ append_assoc old (text_of_lines x') (text_of_lines y')
    ∙ ap (λ t. old ++ (text_of_lines t ++ text_of_lines y')) same_x ∙ ap (λ t. old ++ (text_of_lines x ++ text_of_lines t)) same_y
    ∙ ap (λ t. old ++ t) (sym (joined_append x y))

pub three_texts : (x x' y y' z z' : List (List ℕ)) (old a b new : List ℕ) → x' ≡ x → y' ≡ y → z' ≡ z
    → a ≡ old ++ text_of_lines x' → b ≡ a ++ text_of_lines y' → new ≡ b ++ text_of_lines z' → new ≡ old ++ text_of_lines (x ++ (y ++ z))
three_texts x x' y y' z z' old a b new same_x same_y same_z p q r =
    two_texts x x' (y ++ z) (y ++ z) old a new same_x refl p (two_texts y y' z z' a b new same_y same_z q r)

-- four groups of lines, the first in an empty text
pub four_texts : (w x y z : List (List ℕ)) (old a b c new : List ℕ) → old ≡ []
    → a ≡ old ++ text_of_lines w → b ≡ a ++ text_of_lines x → c ≡ b ++ text_of_lines y → new ≡ c ++ text_of_lines z
    → new ≡ text_of_lines (w ++ (x ++ (y ++ z)))
four_texts w x y z old a b c new empty p q r s =
    two_texts w w (x ++ (y ++ z)) (x ++ (y ++ z)) old a new refl refl p (three_texts x x y y z z a b c new refl refl refl q r s)
    ∙ ap (λ t. t ++ text_of_lines (w ++ (x ++ (y ++ z)))) empty
