-- Places as C sees them.
use Rattle.std.specs.Prelude.{ℕ, List, [], length, take, replicate}
use Rattle.s390x_tables.specs.Tables.{overwritten}
use Rattle.s390x_calls.specs.declared.place.Place.{Place}

-- the first nine numbers of a path, and zeros where it has fewer
abbrev pub padded_path : List ℕ → List ℕ
padded_path path = overwritten (replicate 9 0) (take 9 path)

abbrev pub no_place : Place
no_place = record { kind = 0; block = 0; depth = 0; path = padded_path [] }

abbrev pub start : Place
start = record { kind = 1; block = 0; depth = 0; path = padded_path [] }

-- the instruction to which these numbers lead in a block
abbrev pub of_instruction : (block : ℕ) → (path : List ℕ) → Place
of_instruction block path = record { kind = 2; block = block; depth = length path; path = padded_path path }

abbrev pub block_end : (block : ℕ) → Place
block_end block = record { kind = 3; block = block; depth = 0; path = padded_path [] }

-- the length of the whole code
abbrev pub whole_code : Place
whole_code = record { kind = 4; block = 0; depth = 0; path = padded_path [] }
