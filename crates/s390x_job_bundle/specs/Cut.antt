-- The part of a text that is a job: up to and with its first line `end`.
use Rattle.std.specs.Prelude.{◌≡◌, ℕ, ◌⊎◌, false, List, [], ◌∷◌, ◌++◌, codes, drop, take}
use Rattle.std.specs.Str.{bytes_eq}
use Rattle.s390x_job.specs.Completions.{text_of_lines, pieces}

-- none of the lines is `end`
abbrev pub HasNoEnd : List (List ℕ) → Type 0
HasNoEnd [] = Unit {0}
HasNoEnd (w ∷ ws) = (bytes_eq w (codes "end") ≡ false) × HasNoEnd ws

-- the first so many bytes are lines, the first `end` behind them, and that is all
pub record IsEndedAt (bytes : List ℕ) (n : ℕ) : Type 0 where
  pub lines : List (List ℕ)
  pub free : HasNoEnd lines
  pub pieces_are : pieces bytes ≡ lines ++ codes "end" ∷ pieces (drop n bytes)
  pub part_pieces : pieces (take n bytes) ≡ lines ++ codes "end" ∷ []
  pub part : take n bytes ≡ text_of_lines (lines ++ codes "end" ∷ [])

-- there is no line `end`, and these are all bytes
pub record IsUnended (bytes : List ℕ) (n : ℕ) : Type 0 where
  pub free : HasNoEnd (pieces bytes)
  pub all : take n bytes ≡ bytes
  pub rest : drop n bytes ≡ []

-- so many bytes are up to and with the first line `end`, or all where there is none
abbrev pub IsCutAt : List ℕ → ℕ → Type 0
IsCutAt bytes n = IsEndedAt bytes n ⊎ IsUnended bytes n
