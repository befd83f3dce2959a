-- A text as far as there is room for it.
use Rattle.std.specs.Prelude.{◌≡◌, ℕ, List, ◌++◌, take}

-- as many bytes as there is room for
abbrev pub fitting_text : List ℕ → List ℕ
fitting_text text = take 96 text

-- behind what was written before stands a text, as far as there is room
abbrev pub Adds : List ℕ → List ℕ → List ℕ → Type 0
Adds before text after = fitting_text after ≡ fitting_text (before ++ text)
