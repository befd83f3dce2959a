-- A listing: the disassembly of some code with data behind it, and notes between its lines.
use Rattle.std.specs.Prelude.{◌≡◌, ℕ, ◌+◌, ◌-◌, ◌<◌, min, nat_le, List, [], ◌∷◌, ◌++◌, codes, if◌then◌else◌, length, take, None, string_bytes}
use Rattle.std.specs.List.Sorted.{IsPermutation, IsSortedByKey, IsStableByKey}
use Rattle.std.specs.Ordering.{nat_cmp}
use Rattle.s390x_disassembler.specs.declared.line.Line.{Line}
use Rattle.s390x_disassembler.specs.declared.noted.Note.{Note}
use Rattle.s390x_disassembler.specs.Lines.{Covers}
use Rattle.s390x_disassembler.specs.Disassembly.{line_text}

-- a line of data: eight bytes, or fewer where there are no more
pub record IsDataLine (code : List ℕ) (l : Line) : Type 0 where
  pub inside : l.offset < length code
  pub length_is : l.length ≡ min (length code - l.offset) 8
  pub found : l.found ≡ None

-- the lines say that the bytes from one offset to another are data, each where the one before it ends
abbrev pub CoversData : List ℕ → ℕ → ℕ → List Line → Type 0
CoversData code start end [] = start ≡ end
CoversData code start end (l ∷ ls) = (l.offset ≡ start) × IsDataLine code l × CoversData code (start + l.length) end ls

-- a note, and a line feed
abbrev pub note_text : Note → List ℕ
note_text n = string_bytes n.text ++ (10 ∷ [])

-- notes, one behind the other
abbrev pub notes_text : List Note → List ℕ
notes_text [] = []
notes_text (n ∷ ns) = note_text n ++ notes_text ns

-- the notes before the first one that stands behind an offset
abbrev pub due_text : ℕ → List Note → List ℕ
due_text at [] = []
due_text at (n ∷ ns) = if nat_le n.offset at then note_text n ++ due_text at ns else []

-- that one, and those that follow it
abbrev pub notes_left : ℕ → List Note → List Note
notes_left at [] = []
notes_left at (n ∷ ns) = if nat_le n.offset at then notes_left at ns else n ∷ ns

-- a line as a disassembly has it, behind four blanks
abbrev pub indented_text : (base : ℕ) → (code : List ℕ) → Line → List ℕ
indented_text base code l = codes "    " ++ line_text base code l

-- each line behind the notes that stand at its first byte or before it and that no line had, and in the end the notes that are left
abbrev pub noted_text : (base : ℕ) → (code : List ℕ) → List Note → List Line → List ℕ
noted_text base code ns [] = notes_text ns
noted_text base code ns (l ∷ ls) = due_text l.offset ns ++ (indented_text base code l ++ noted_text base code (notes_left l.offset ns) ls)

-- these are the notes by their places, those of one place as they are given
pub record AreInOrder (notes ordered : List Note) : Type 0 where
  pub permutation : IsPermutation notes ordered
  pub sorted : IsSortedByKey (λ (n : Note). n.offset) nat_cmp ordered
  pub stable : IsStableByKey (λ (n : Note). n.offset) nat_cmp notes ordered

-- the lines say what stands in the first so many bytes of the code, and the bytes behind them are lines of data
pub record AreLines (code : List ℕ) (split : ℕ) (lines : List Line) : Type 0 where
  pub code_lines : List Line
  pub data_lines : List Line
  pub covers : Covers (take split code) 0 split code_lines
  pub covers_data : CoversData code split (length code) data_lines
  pub are : lines ≡ code_lines ++ data_lines

-- the text is that of such lines with these notes between
pub record IsNoted (base : ℕ) (code : List ℕ) (split : ℕ) (notes : List Note) (text : List ℕ) : Type 0 where
  pub ordered : List Note
  pub order : AreInOrder notes ordered
  pub lines : List Line
  pub are : AreLines code split lines
  pub text_is : text ≡ noted_text base code ordered lines
