-- What stands in some code, place by place.
use Rattle.std.specs.Prelude.{◌≡◌, ℕ, ◌+◌, ◌<◌, List, [], ◌∷◌, length, take, drop, min, slice_index, Option, Some, None}
use Rattle.s390x_format.specs.declared.decoder.Decoded.{Decoded}
use Rattle.s390x_format.specs.declared.decoder.Located.{Located}
use Rattle.s390x_format.specs.Fetch.{IsFetch, IsLocated}
use Rattle.s390x_format.specs.Rows.{fetch_length_of}
use Rattle.s390x_disassembler.specs.declared.line.Line.{Line}

-- the bytes are those of the instruction; or of no machine row
abbrev pub IsFound : List ℕ → Option Located → Type 0
IsFound bytes (Some l) = IsLocated bytes l
IsFound bytes None = (d : Decoded) → IsFetch bytes d → ⊥

-- how many bytes stand together at the head of some code: as many as the first one tells, if there are so many
abbrev pub unit_length : List ℕ → ℕ
unit_length code = min (fetch_length_of (slice_index code 0)) (length code)

-- a line's bytes
abbrev pub bytes_at : List ℕ → Line → List ℕ
bytes_at code l = take l.length (drop l.offset code)

-- a line says what its bytes are, which are as many as the first of them tells, if the code has them
pub record IsLine (code : List ℕ) (l : Line) : Type 0 where
  pub inside : l.offset < length code
  pub length_is : l.length ≡ unit_length (drop l.offset code)
  pub found : IsFound (bytes_at code l) l.found

-- the lines say what stands from one offset to another, each where the one before it ends
abbrev pub Covers : List ℕ → ℕ → ℕ → List Line → Type 0
Covers code start end [] = start ≡ end
Covers code start end (l ∷ ls) = (l.offset ≡ start) × IsLine code l × Covers code (start + l.length) end ls
