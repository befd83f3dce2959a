-- Which rows a mnemonic may be of.
use Rattle.std.specs.Prelude.{ℕ, zero, suc, Bool, ◌||◌, ◌&&◌, ◌==◌, nat_lt, if◌then◌else◌, List, [], ◌∷◌, length, take, drop}
use Rattle.std.specs.Str.{bytes_eq}
use Rattle.s390x_format.specs.declared.spelling.Form.{Form}
use Rattle.s390x_format.specs.declared.spelling.Suffix.{Suffix}
use Rattle.s390x_disassembler.specs.Spelling.{letters_for}

-- the place of the first name that is this one; how many there are where none is
unfoldable pub place_in : List (List ℕ) → List ℕ → ℕ
place_in [] m = zero
place_in (n ∷ ns) m = let later = suc (place_in ns m) in if bytes_eq n m then zero else later

-- the text is empty, or letters that a suffix has
unfoldable pub is_ending : Suffix → List ℕ → Bool
is_ending s letters = (length letters == 0) || nat_lt (place_in (letters_for s) letters) (length (letters_for s))

-- the mnemonic may be the row's: what it begins with, and letters
unfoldable pub may_name : List ℕ × Suffix × Form → List ℕ → Bool
may_name row m = let ending = is_ending row.1 (drop (length row.0) m) in bytes_eq row.0 (take (length row.0) m) && ending

-- the place of the first row of which the mnemonic may be
unfoldable pub row_named : List (List ℕ × Suffix × Form) → List ℕ → ℕ
row_named [] m = zero
row_named (row ∷ rows) m = let later = suc (row_named rows m) in if may_name row m then zero else later
