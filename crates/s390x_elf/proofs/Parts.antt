-- A part of a list of bytes is read back at its offset.
use Rattle.std.proofs.Common.{◌≡◌, ℕ, zero, suc, List, [], ◌∷◌, ◌++◌, length, take, drop, refl, sym, ap, ◌∙◌}
use Rattle.std.proofs.lemmas.List.{take_at, drop_at}
use Rattle.s390x_elf.specs.Reading.{text, text_at, IsText}

text_in_front : (name rest : List ℕ) → IsText name → text (name ++ 0 ∷ rest) ≡ name
text_in_front [] rest h = refl
text_in_front (zero ∷ name) rest h = absurd h
text_in_front (suc b ∷ name) rest h = ap (λ (bytes : List ℕ). suc b ∷ bytes) (text_in_front name rest h)

-- a text with a zero behind it
pub text_read : (table before name behind : List ℕ) (at : ℕ) → table ≡ before ++ (name ++ 0 ∷ behind) → at ≡ length before → IsText name → text_at table at ≡ name
text_read table before name behind at e h n =
    ap (λ (bytes : List ℕ). text (drop at bytes)) e
    ∙ ap text (drop_at before (name ++ 0 ∷ behind) at (sym h))
    ∙ text_in_front name behind n

-- a content
pub content_read : (file before content behind : List ℕ) (at : ℕ) → file ≡ before ++ (content ++ behind) → at ≡ length before → take (length content) (drop at file) ≡ content
content_read file before content behind at e h =
    ap (λ (bytes : List ℕ). take (length content) (drop at bytes)) e
    ∙ ap (take (length content)) (drop_at before (content ++ behind) at (sym h))
    ∙ take_at content behind (length content) refl
