-- Numbers, texts and tables in the bytes of a file whose numbers have their most significant byte first ("ELF-64 Object File Format").
use Rattle.std.proofs.Common.{ℕ, zero, suc}
use Rattle.std.specs.Prelude.{List, [], ◌∷◌, take, drop, slice_index}
use Rattle.std.specs.Int.{w16, w32, w64, from_be_bytes}

-- the number of one, two, four or eight bytes at an offset
abbrev pub byte : List ℕ → ℕ → ℕ
byte bytes at = slice_index bytes at

abbrev pub half : List ℕ → ℕ → ℕ
half bytes at = from_be_bytes w16 (drop at bytes)

abbrev pub word : List ℕ → ℕ → ℕ
word bytes at = from_be_bytes w32 (drop at bytes)

abbrev pub doubleword_at : List ℕ → ℕ → ℕ
doubleword_at bytes at = from_be_bytes w64 (drop at bytes)

-- the bytes before the first zero
abbrev pub text : List ℕ → List ℕ
text [] = []
text (zero ∷ bytes) = []
text (suc b ∷ bytes) = suc b ∷ text bytes

-- the text at an offset of a string table
abbrev pub text_at : List ℕ → ℕ → List ℕ
text_at table at = text (drop at table)

-- the first pieces of a size, a number of them
abbrev pub pieces : (size count : ℕ) → List ℕ → List (List ℕ)
pieces size zero bytes = []
pieces size (suc count) bytes = take size bytes ∷ pieces size count (drop size bytes)

-- bytes without a zero among them
abbrev pub IsText : List ℕ → Type 0
IsText [] = Unit {0}
IsText (zero ∷ bytes) = ⊥
IsText (suc b ∷ bytes) = IsText bytes
