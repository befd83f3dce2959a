-- A part of an image: the code and constants of one of several functions.
use Rattle.std.specs.Prelude.{◌≡◌, ℕ, ◌+◌, List, ◌++◌, length}
use Rattle.s390x_operations.specs.State.{CodeImage}

-- the bytes of the part stand in the whole at the part's base
pub record IsPart (whole part : CodeImage) : Type 0 where
  pub earlier : List ℕ
  pub later : List ℕ
  pub bytes : whole.bytes ≡ earlier ++ (part.bytes ++ later)
  pub base : part.base ≡ whole.base + length earlier
