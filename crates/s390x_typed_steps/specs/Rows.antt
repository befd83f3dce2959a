-- The bytes of a step, once the steps and the blocks have offsets (cranelift-codegen, `emit.rs`).
-- Offsets are counted in bytes from the code's beginning.
use Rattle.std.specs.Int.{w64, to_be_bytes}
use Rattle.s390x_base.specs.declared.ir.ExternalName.{ExternalName}
use Rattle.std.specs.Prelude.{ℕ, ℤ, pos, ◌+◌, ◌-◌, ◌/◌, ◌%◌, List, [], ◌∷◌, ◌++◌, Option, Some, None}
use Rattle.s390x_rows.specs.declared.opcodes.TheConstants as opcodes
use Rattle.s390x_typed_steps.specs.MachineInstruction.{MachineInstruction, bytes_of, ril_b, ril_c}
use Rattle.s390x_typed_steps.specs.Parts.{Target, ToBlock, ToStep, CodePart, Row, Trapping, Branch, Relative, RelativeConstant, RelativeSymbol, SymbolValue, TrapHere, TableWord, CallSymbol, SiteHere, step_parts, part_size}
use Rattle.s390x_typed_steps.specs.Steps.{Step}

-- what the steps refer to outside themselves
pub record LinkEnvironment : Type 0 where
  -- where each constant stands, and its alignment
  pub constant : ℕ → ℕ
  pub aligns : List ℕ
  -- what the doubleword of a symbol plus an offset holds: 0 before linking
  pub symbol_value : ExternalName → ℤ → ℕ
  -- half of the distance from an offset to a symbol plus an offset, modulo 2 ^ 32: 0 before linking
  pub symbol_distance : (origin : ℕ) → ExternalName → ℤ → ℕ

-- where each step and each block stands, by its number, and the link environment of them
pub record Offsets : Type 0 where
  pub step : ℕ → ℕ
  pub block : ℕ → ℕ
  pub environment : LinkEnvironment

-- where a target stands
abbrev pub target_offset : Offsets → Target → ℕ
target_offset P (ToBlock b) = P.block b
target_offset P (ToStep k) = P.step k

-- half of the distance from an offset to a target, modulo 2 ^ 32. 8589934592 is 2 ^ 33, added so that the subtraction doesn't stop at 0
abbrev pub half_distance : (origin target : ℕ) → ℕ
half_distance origin target = (8589934592 + target - origin) / 2 % 4294967296

-- the distance to a target from the beginning of a table, which stands so many bytes before an offset, modulo 2 ^ 32.
-- 4294967296 is 2 ^ 32, added so that the subtraction doesn't stop at 0
abbrev pub table_distance : (origin before target : ℕ) → ℕ
table_distance origin before target = (before + (4294967296 + target - origin)) % 4294967296

-- the four bytes of a word, the most significant first
abbrev pub word_bytes : ℕ → List ℕ
word_bytes n = n / 16777216 % 256 ∷ n / 65536 % 256 ∷ n / 256 % 256 ∷ n % 256 ∷ []

-- a call of a symbol, or a jump to it where there is no link register, by half of the distance
abbrev pub symbol_call : (link : Option ℕ) → (half : ℕ) → MachineInstruction
symbol_call (Some link) half = ril_b opcodes.BRASL link half
symbol_call None half = ril_c opcodes.BRCL 15 half

-- the bytes of a part at an offset
abbrev pub part_bytes : Offsets → ℕ → CodePart → List ℕ
part_bytes P p (Row m) = bytes_of m
part_bytes P p (Trapping m byte code) = bytes_of m
part_bytes P p (Branch mask target) = bytes_of (ril_c opcodes.BRCL mask (half_distance p (target_offset P target)))
part_bytes P p (Relative opcode register target) = bytes_of (ril_b opcode register (half_distance p (target_offset P target)))
part_bytes P p (RelativeConstant opcode register c) = bytes_of (ril_b opcode register (half_distance p (P.environment.constant c)))
part_bytes P p (RelativeSymbol opcode register name offset) = bytes_of (ril_b opcode register (P.environment.symbol_distance p name offset))
part_bytes P p (SymbolValue name offset) = to_be_bytes w64 (P.environment.symbol_value name offset)
part_bytes P p (TrapHere code) = []
part_bytes P p (TableWord before target) = word_bytes (table_distance p before (target_offset P target))
part_bytes P p (CallSymbol link name) = bytes_of (symbol_call link (P.environment.symbol_distance p name (pos 0)))
part_bytes P p (SiteHere site) = []

-- the bytes of parts from an offset on
abbrev pub parts_bytes : Offsets → ℕ → List CodePart → List ℕ
parts_bytes P p [] = []
parts_bytes P p (part ∷ parts) = part_bytes P p part ++ parts_bytes P (p + part_size part) parts

-- the bytes of a step at an offset
abbrev pub step_bytes : Offsets → ℕ → Step → List ℕ
step_bytes P p s = parts_bytes P p (step_parts s)
