-- The line of an instruction tells its bytes.
use Rattle.std.proofs.Common.{◌≡◌, ℕ, ◌≤◌, Bool, true, false, List, [], ◌∷◌, ◌++◌, length, ap, ◌∙◌, arith, Some}
use Rattle.s390x_format.specs.declared.decoder.Located.{Located}
use Rattle.s390x_format.specs.Fetch.{IsLocated}
use Rattle.s390x_disassembler.specs.Bare.{IsInstructionRead}
use Rattle.s390x_disassembler.specs.Assembly.{IsInstructionLine, IsNoLine, located_line}
use Rattle.s390x_disassembler.proofs.OneInstruction.{one_text}
use Rattle.s390x_disassembler.proofs.Widths.{line_short}

-- what was read of the line are its bytes
pub bytes_told : (a : ℕ) (line bytes u : List ℕ) → IsInstructionRead a line bytes → IsInstructionLine a line u → bytes ≡ u
bytes_told a line bytes u reads f = reads u f.located [] f.unit f.is f.line_is

-- the line of some bytes is that of any instruction that they are
pub line_told : (a : ℕ) (line bytes : List ℕ) (l : Located) → IsLocated bytes l → IsInstructionLine a line bytes → line ≡ located_line a l
line_told a line bytes l h f = f.line_is ∙ ap (λ t. t ++ (10 ∷ [])) (one_text a bytes (Some f.located) (Some l) f.is h)

-- a line for which a text has no room is no instruction's
pub none_long : (a : ℕ) (line : List ℕ) → 96 ≤ length line → IsNoLine a line
none_long a line h = λ bytes f. omega (arith, h, line_short a line bytes f)

pub not_both : (b : Bool) → b ≡ true → b ≡ false → ⊥
not_both b h g = cc
