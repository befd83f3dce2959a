-- The texts that are assembled: a disassembly, whose lines may lack their address and their bytes.
use Rattle.std.specs.Prelude.{◌≡◌, ℕ, ◌+◌, Bool, true, ◌||◌, ◌==◌, List, [], ◌∷◌, ◌++◌, length, slice_index, Option, ◌⊎◌}
use Rattle.hex.specs.Hex.{IsBytes}
use Rattle.s390x_format.specs.Rows.{fetch_length_of}
use Rattle.s390x_format.specs.declared.decoder.Located.{Located}
use Rattle.s390x_format.specs.Fetch.{IsLocated}
use Rattle.s390x_disassembler.specs.declared.line.Line.{Line}
use Rattle.s390x_disassembler.specs.Lines.{IsFound, bytes_at, Covers}
use Rattle.s390x_disassembler.specs.Text.{found_text, row_text, spellings}
use Rattle.s390x_disassembler.specs.Disassembly.{address_of, full_line, line_text}
use Rattle.s390x_disassembler.specs.Bare.{is_unit}

-- `INSTRUCTION` and a line feed
abbrev pub bare_line : ℕ → List ℕ → Option Located → List ℕ
bare_line a bytes found = found_text a bytes found ++ (10 ∷ [])

-- a line of code that begins at a base, without its address and its bytes
abbrev pub bare_text : ℕ → List ℕ → Line → List ℕ
bare_text base code l = bare_line (address_of base l.offset) (bytes_at code l) l.found

-- a text begins with a line, with its address and bytes or without, and the rest stands behind it
abbrev pub BeginsWith : ℕ → List ℕ → Line → List ℕ → List ℕ → Type 0
BeginsWith base code l text rest = (text ≡ line_text base code l ++ rest) ⊎ (text ≡ bare_text base code l ++ rest)

-- the text is that of the lines, each with its address and bytes or without
abbrev pub Spells : ℕ → List ℕ → List Line → List ℕ → Type 0
Spells base code [] text = text ≡ []
Spells base code (l ∷ ls) text = (rest : List ℕ) × BeginsWith base code l text rest × Spells base code ls rest

-- the text is that of lines which say what stands in the code, from its first byte to its last
pub record IsSource (base : ℕ) (code text : List ℕ) : Type 0 where
  pub lines : List Line
  pub covers : Covers code 0 (length code) lines
  pub spells : Spells base code lines text

-- the text is a source of no other code
abbrev pub IsOnlySource : ℕ → List ℕ → List ℕ → Type 0
IsOnlySource base code text = (c : List ℕ) → IsBytes c → IsSource base c text → code ≡ c

-- the text is a source of no code
abbrev pub IsNoSource : ℕ → List ℕ → Type 0
IsNoSource base text = (c : List ℕ) → IsBytes c → IsSource base c text → ⊥

-- the number, counted from 1, of the first wrong line: the lines before it are a source of some code, and no source begins with
-- them and this line; or it is the last, and no line feed ends it
pub record IsWrongSource (base : ℕ) (text : List ℕ) (number : ℕ) : Type 0 where
  pub code : List ℕ
  pub bytes : IsBytes code
  pub before : List ℕ
  pub rest : List ℕ
  pub text_is : text ≡ before ++ rest
  pub begun : IsSource base code before
  pub number_is : number ≡ length begun.lines + 1
  pub wrong : (c line more behind : List ℕ) → IsBytes c → rest ≡ line ++ (10 ∷ more) → IsSource base c (before ++ (line ++ (10 ∷ behind))) → ⊥

-- a text begins with the line of some bytes, with its address and bytes or without, and the rest stands behind it
pub record IsFirstLine (a : ℕ) (text bytes rest : List ℕ) : Type 0 where
  pub unit : is_unit bytes ≡ true
  pub found : Option Located
  pub is_found : IsFound bytes found
  pub text_is : (text ≡ full_line a bytes found ++ rest) ⊎ (text ≡ bare_line a bytes found ++ rest)

-- an instruction's line at an address, without its address and its bytes
abbrev pub located_line : ℕ → Located → List ℕ
located_line a l = row_text spellings a l.at l.decoded.fields ++ (10 ∷ [])

-- the line is that of an instruction, which has these bytes
pub record IsInstructionLine (a : ℕ) (line bytes : List ℕ) : Type 0 where
  pub unit : is_unit bytes ≡ true
  pub located : Located
  pub is : IsLocated bytes located
  pub line_is : line ≡ located_line a located

-- it is the line of no other bytes
abbrev pub IsOnlyLine : ℕ → List ℕ → List ℕ → Type 0
IsOnlyLine a line bytes = (other : List ℕ) → IsInstructionLine a line other → bytes ≡ other

-- it is no instruction's
abbrev pub IsNoLine : ℕ → List ℕ → Type 0
IsNoLine a line = (bytes : List ℕ) → IsInstructionLine a line bytes → ⊥

-- as many bytes as the first of them tells
abbrev pub is_whole : List ℕ → Bool
is_whole bytes = length bytes == fetch_length_of (slice_index bytes 0)

-- they are, or nothing stands behind their line
abbrev pub ends_well : List ℕ → List ℕ → Bool
ends_well bytes rest = is_whole bytes || (length rest == 0)
