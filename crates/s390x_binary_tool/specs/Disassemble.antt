-- What is told as the disassembly of code.
use Rattle.std.specs.Prelude.{◌≡◌, ℕ, List, ◌++◌, codes}
use Rattle.std.specs.Fmt.{decimal}
use Rattle.s390x_disassembler.specs.Disassembly.{IsDisassembly, IsOnlyCode}
use Rattle.s390x_tool.specs.Lines.{line}
use Rattle.s390x_tool.specs.declared.status.Status.TheVariants as status
use Rattle.s390x_binary_tool.specs.ImageText.{IsImageText, IsWrongLine}
use Rattle.s390x_binary_tool.specs.declared.status.BinaryStatus.{BinaryStatus}
use Rattle.s390x_binary_tool.specs.declared.status.BinaryStatus.TheVariants.{Shared}

-- the text is the disassembly of the code at the base, and of no other code
abbrev pub IsDisassemblyOf : (base : ℕ) (code text : List ℕ) → Type 0
IsDisassemblyOf base code text = IsDisassembly base code text × IsOnlyCode base code text

-- the reply to code
abbrev pub IsDisassembleReply : (base : ℕ) (code : List ℕ) → BinaryStatus → List ℕ → Type 0
IsDisassembleReply base code (Shared status.Ok) text = IsDisassemblyOf base code text
IsDisassembleReply base code (Shared status.NoMemory) text = text ≡ line (codes "no memory")
IsDisassembleReply base code s text = ⊥

-- the input is code in lines of hex digits, and the text is its disassembly
pub record IsDisassembled (base : ℕ) (input text : List ℕ) : Type 0 where
  pub code : List ℕ
  pub hex : IsImageText input code
  pub is : IsDisassemblyOf base code text

-- the input writes no bytes, and this is its first wrong line
pub record IsHexSyntax (input text : List ℕ) : Type 0 where
  pub number : ℕ
  pub wrong : IsWrongLine input number
  pub spelled : text ≡ line (codes "syntax " ++ decimal number)

-- the answer to `disassemble` and its whole input
abbrev pub IsDisassembleAnswer : (base : ℕ) → List ℕ → BinaryStatus → List ℕ → Type 0
IsDisassembleAnswer base input (Shared status.Ok) text = IsDisassembled base input text
IsDisassembleAnswer base input (Shared status.Syntax) text = IsHexSyntax input text
IsDisassembleAnswer base input (Shared status.NoMemory) text = text ≡ line (codes "no memory")
IsDisassembleAnswer base input s text = ⊥
