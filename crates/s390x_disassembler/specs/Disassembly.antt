-- The disassembly of some code.
use Rattle.std.specs.Prelude.{◌≡◌, ℕ, ◌+◌, ◌%◌, ◌^◌, false, List, [], ◌∷◌, ◌++◌, codes, length, Option}
use Rattle.std.specs.Fmt.{digits}
use Rattle.hex.specs.Hex.{encode_lower, IsBytes}
use Rattle.s390x_format.specs.declared.decoder.Located.{Located}
use Rattle.s390x_disassembler.specs.declared.line.Line.{Line}
use Rattle.s390x_disassembler.specs.Lines.{IsFound, bytes_at, Covers}
use Rattle.s390x_disassembler.specs.Text.{found_text}

-- the address of an offset, modulo 2^64
abbrev pub address_of : ℕ → ℕ → ℕ
address_of base offset = (base + offset) % 2 ^ 64

-- `ADDRESS: BYTES INSTRUCTION` and a line feed
abbrev pub full_line : ℕ → List ℕ → Option Located → List ℕ
full_line a bytes found = digits 16 false a ++ (codes ": " ++ (encode_lower bytes ++ (32 ∷ (found_text a bytes found ++ (10 ∷ [])))))

-- a line of code that begins at a base
abbrev pub line_text : ℕ → List ℕ → Line → List ℕ
line_text base code l = full_line (address_of base l.offset) (bytes_at code l) l.found

-- lines, one behind the other
abbrev pub lines_text : ℕ → List ℕ → List Line → List ℕ
lines_text base code [] = []
lines_text base code (l ∷ ls) = line_text base code l ++ lines_text base code ls

-- the text is that of lines which say what stands in the code, from its first byte to its last
pub record IsDisassembly (base : ℕ) (code text : List ℕ) : Type 0 where
  pub lines : List Line
  pub covers : Covers code 0 (length code) lines
  pub text_is : text ≡ lines_text base code lines

-- it is the disassembly of no other code
abbrev pub IsOnlyCode : ℕ → List ℕ → List ℕ → Type 0
IsOnlyCode base code text = (other : List ℕ) → IsBytes other → IsDisassembly base other text → other ≡ code

-- the text of the instruction whose bytes these are, or of bytes that are no machine row's, at an address
pub record IsInstruction (a : ℕ) (bytes text : List ℕ) : Type 0 where
  pub found : Option Located
  pub is_found : IsFound bytes found
  pub text_is : text ≡ found_text a bytes found
