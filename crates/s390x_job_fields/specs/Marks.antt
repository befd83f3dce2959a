-- Texts as words between marks.
use Rattle.std.specs.Prelude.{ℕ, Bool, false, List, [], ◌∷◌, codes, if◌then◌else◌, ◌==◌, ◌||◌, drop}

-- whether a byte is one of these
abbrev pub among : ℕ → List ℕ → Bool
among x [] = false
among x (y ∷ s) = (x == y) || among x s

-- the bytes that stand between words
abbrev pub is_mark : ℕ → Bool
is_mark x = among x (10 ∷ codes " ()[],:/=!@")

-- `=`, before the register that a value stands in
abbrev pub equals_sign : ℕ
equals_sign = 61

-- `@`, before an offset in the stack
abbrev pub at_sign : ℕ
at_sign = 64

-- `:`, before the type or the block that something has
abbrev pub colon : ℕ
colon = 58

-- the bytes before the first mark
abbrev pub before_mark : List ℕ → List ℕ
before_mark [] = []
before_mark (x ∷ s) = if is_mark x then [] else x ∷ before_mark s

-- the bytes from the first mark on
abbrev pub from_mark : List ℕ → List ℕ
from_mark [] = []
from_mark (x ∷ s) = if is_mark x then x ∷ s else from_mark s

-- the word after one mark
unfoldable pub word : List ℕ → List ℕ
word s = before_mark (drop 1 s)

-- what follows the word after one mark
unfoldable pub after_word : List ℕ → List ℕ
after_word s = from_mark (drop 1 s)

-- the bytes before the first c
abbrev pub upto : ℕ → List ℕ → List ℕ
upto c [] = []
upto c (x ∷ s) = if x == c then [] else x ∷ upto c s

-- the bytes after the first c
abbrev pub past : ℕ → List ℕ → List ℕ
past c [] = []
past c (x ∷ s) = if x == c then s else past c s
