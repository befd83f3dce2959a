-- Words between blanks.
use Rattle.std.specs.Prelude.{◌≡◌, ℕ, List, [], ◌∷◌}

-- a text has no blank
abbrev pub NoBlank : List ℕ → Type 0
NoBlank [] = Unit {0}
NoBlank (x ∷ xs) = (x ≡ 32 → ⊥) × NoBlank xs
