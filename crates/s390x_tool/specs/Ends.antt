-- What was read, and what was written.
use Rattle.std.specs.Prelude.{ℕ, ◌≡◌, ◌<◌, ◌≤◌, List, ◌++◌, length, Option}
use Rattle.std.specs.Io.KnownBytes.{Consumes, Appends, IsAtEnd}

-- the number of bytes with which an input is too long
abbrev pub too_many : ℕ
too_many = 16777217

-- the number of bytes that an input may have at most
abbrev pub most_bytes : ℕ
most_bytes = 16777216

-- the source was read to its end, and it held these bytes, which are not too many
pub record IsRead (left left' : Option (List ℕ)) (input : List ℕ) : Type 0 where
  pub taken : Consumes left left' input
  pub end : IsAtEnd left'
  pub short : length input < too_many

-- the source gave too many bytes, and no end
pub record IsTooLong (left left' : Option (List ℕ)) : Type 0 where
  pub taken : List ℕ
  pub consumed : Consumes left left' taken
  pub long : length taken ≡ too_many

-- the source gave bytes, at most so many, and has left what stands behind them
pub record IsPartRead (left left' : Option (List ℕ)) (most : ℕ) : Type 0 where
  pub taken : List ℕ
  pub consumed : Consumes left left' taken
  pub few : length taken ≤ most

-- the sink was told a prefix of the text, and not all of it
pub record IsCutShort (told told' : Option (List ℕ)) (text : List ℕ) : Type 0 where
  pub taken : List ℕ
  pub rest : List ℕ
  pub prefix : text ≡ taken ++ rest
  pub more : 0 < length rest
  pub appended : Appends told told' taken
