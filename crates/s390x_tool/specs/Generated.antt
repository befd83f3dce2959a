-- What is told of a generated function.
use Rattle.std.specs.Prelude.{ℕ, ◌≡◌, ◌%◌, List, ◌++◌, length, sum, codes}
use Rattle.std.specs.Fmt.{decimal}
use Rattle.s390x_inst.specs.State.{base_facilities, empty_emission}
use Rattle.s390x_inst.specs.declared.function.AllocatedFunction.{AllocatedFunction}
use Rattle.s390x_image.specs.Symbols.{no_symbols}
use Rattle.s390x_emit_int.specs.FunctionImage.{IsImageOf}
use Rattle.s390x_generator.specs.Generator.{IsGenerated}
use Rattle.s390x_tool.specs.Lines.{line}
use Rattle.s390x_tool.specs.declared.status.Status.{Status}
use Rattle.s390x_tool.specs.declared.status.Status.TheVariants as status

-- the address at which a generated function is linked
abbrev pub generated_base : ℕ
generated_base = 4096

-- the image of the generated function of so many blocks, for a machine without further facilities, in the frame of no bytes
pub record IsGeneratedImage (count start : ℕ) (bytes : List ℕ) : Type 0 where
  pub function : AllocatedFunction
  pub blocks : IsGenerated count start function
  pub image : IsImageOf base_facilities empty_emission function generated_base no_symbols bytes

-- `blocks N bytes B sum S`: the count of blocks, the size of the image, and the sum of its bytes modulo 2 ^ 32
abbrev pub summary_line : ℕ → List ℕ → List ℕ
summary_line count bytes =
    line (codes "blocks " ++ (decimal count ++ (codes " bytes " ++ (decimal (length bytes) ++ (codes " sum " ++ decimal (sum bytes % 4294967296))))))

-- the text for a generated function
pub record IsGeneratedText (count start : ℕ) (text : List ℕ) : Type 0 where
  pub bytes : List ℕ
  pub image : IsGeneratedImage count start bytes
  pub spelled : text ≡ summary_line count bytes

-- the reply to words that ask for one: no cause refuses it
abbrev pub IsGenerateReply : (count start : ℕ) → Status → List ℕ → Type 0
IsGenerateReply count start status.Ok text = IsGeneratedText count start text
IsGenerateReply count start status.NoMemory text = text ≡ line (codes "no memory")
IsGenerateReply count start s text = ⊥
