-- The text of an instruction, and the instruction of a line.
use Rattle.std.specs.Prelude.{◌≡◌, ℕ, ◌<◌, List, length, slice_index, Some}
use Rattle.s390x_format.specs.Fetch.{IsLocated}
use Rattle.s390x_format.specs.declared.decoder.Located.{Located}
use Rattle.s390x_disassembler.specs.Text.{found_text}
use Rattle.s390x_disassembler.specs.Assembly.{IsInstructionLine, IsOnlyLine}
use Rattle.s390x_page.specs.declared.assembling.InstructionBytes.{InstructionBytes}
use Rattle.s390x_page.specs.declared.text.InstructionText.{InstructionText}

-- a text's bytes, and their number
pub record Holds (t : InstructionText) (text : List ℕ) : Type 0 where
  pub count : t.length ≡ length text
  pub each : (i : ℕ) → i < length text → slice_index t.bytes i ≡ slice_index text i

-- the bytes begin with an instruction, and this is its text at an address
pub record IsTextOf (address : ℕ) (bytes : List ℕ) (t : InstructionText) : Type 0 where
  pub located : Located
  pub is : IsLocated bytes located
  pub text : Holds t (found_text address bytes (Some located))

-- some bytes, and their number
pub record HoldsBytes (b : InstructionBytes) (bytes : List ℕ) : Type 0 where
  pub count : b.length ≡ length bytes
  pub each : (i : ℕ) → i < length bytes → slice_index b.bytes i ≡ slice_index bytes i

-- the line is that of an instruction at an address, and these are its bytes, the only ones with this line
pub record IsAssembled (address : ℕ) (line : List ℕ) (b : InstructionBytes) : Type 0 where
  pub code : List ℕ
  pub is : IsInstructionLine address line code
  pub one : IsOnlyLine address line code
  pub bytes : HoldsBytes b code
