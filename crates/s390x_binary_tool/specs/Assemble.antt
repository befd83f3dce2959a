-- What is told as the code of a source.
use Rattle.std.specs.Prelude.{◌≡◌, ℕ, List, ◌++◌, codes}
use Rattle.std.specs.Fmt.{decimal}
use Rattle.hex.specs.Hex.{encode_lower}
use Rattle.s390x_disassembler.specs.Assembly.{IsNoSource, IsOnlySource, IsSource, IsWrongSource}
use Rattle.s390x_tool.specs.Lines.{line}
use Rattle.s390x_tool.specs.declared.status.Status.TheVariants as status
use Rattle.s390x_binary_tool.specs.declared.status.BinaryStatus.{BinaryStatus}
use Rattle.s390x_binary_tool.specs.declared.status.BinaryStatus.TheVariants.{Shared}

-- the input is a source of this code at the base, and of no other, and the text is that code in hex
pub record IsAssembled (base : ℕ) (input text : List ℕ) : Type 0 where
  pub code : List ℕ
  pub source : IsSource base code input
  pub only : IsOnlySource base code input
  pub spelled : text ≡ line (encode_lower code)

-- the input is a source of no code, and this is its first wrong line
pub record IsAssembleSyntax (base : ℕ) (input text : List ℕ) : Type 0 where
  pub number : ℕ
  pub none : IsNoSource base input
  pub wrong : IsWrongSource base input number
  pub spelled : text ≡ line (codes "syntax " ++ decimal number)

-- the answer to `assemble` and its whole input
abbrev pub IsAssembleAnswer : (base : ℕ) → List ℕ → BinaryStatus → List ℕ → Type 0
IsAssembleAnswer base input (Shared status.Ok) text = IsAssembled base input text
IsAssembleAnswer base input (Shared status.Syntax) text = IsAssembleSyntax base input text
IsAssembleAnswer base input (Shared status.NoMemory) text = text ≡ line (codes "no memory")
IsAssembleAnswer base input s text = ⊥
