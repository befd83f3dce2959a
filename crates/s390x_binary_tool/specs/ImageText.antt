-- The text of an image: lines of hex digits.
use Rattle.std.specs.Prelude.{◌≡◌, ◌≢◌, ℕ, ◌+◌, List, [], ◌∷◌, ◌++◌, ◌==◌, if◌then◌else◌, Option, Some, None, IsSome, Result, Ok}
use Rattle.hex.specs.Hex.{decode_of}
use Rattle.hex.specs.declared.error.FromHexError.{FromHexError}
use Rattle.s390x_job.specs.Completions.{IsFirstWrongLine, text_of_lines, pieces}

-- bytes before others, where both are there
abbrev pub bytes_before : Result (List ℕ) FromHexError → Option (List ℕ) → Option (List ℕ)
bytes_before (Ok first) (Some rest) = Some (first ++ rest)
bytes_before _ _ = None

-- the bytes that lines of hex digits write, in order; none where a line isn't hex
abbrev pub bytes_of_lines : List (List ℕ) → Option (List ℕ)
bytes_of_lines [] = Some []
bytes_of_lines (w ∷ ws) = bytes_before (decode_of w) (bytes_of_lines ws)

-- lines of hex digits, each ended by a line feed, write these bytes
pub record IsImageText (text image : List ℕ) : Type 0 where
  pub lines : text ≡ text_of_lines (pieces text)
  pub bytes : bytes_of_lines (pieces text) ≡ Some image

-- the text writes no bytes, and this is the number of its first line that isn't hex or has no line feed
pub record IsWrongLine (text : List ℕ) (number : ℕ) : Type 0 where
  pub none : (image : List ℕ) → IsImageText text image → ⊥
  pub first : IsFirstWrongLine (λ ws. IsSome (bytes_of_lines ws)) (pieces text) number

-- how many first bytes are the same
abbrev pub common_length : List ℕ → List ℕ → ℕ
common_length [] ys = 0
common_length (x ∷ xs) [] = 0
common_length (x ∷ xs) (y ∷ ys) = if x == y then 1 + common_length xs ys else 0

-- these bytes aren't the same, and this is the number of the first one that differs, or the shorter length
abbrev pub IsFirstDifference : List ℕ → List ℕ → ℕ → Type 0
IsFirstDifference xs ys n = (xs ≢ ys) × (n ≡ common_length xs ys)
