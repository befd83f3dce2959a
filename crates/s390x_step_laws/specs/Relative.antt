-- Accesses that are relative to the instruction, which a machine may lack.
use Rattle.std.specs.Prelude.{◌≡◌, ℕ, List, [], ◌∷◌, Some, true, slice_get}
use Rattle.s390x_inst.specs.Emission.{Emission}
use Rattle.s390x_inst.specs.declared.function.Block.{Block}
use Rattle.s390x_inst.specs.declared.inst.Inst.{Inst}
use Rattle.s390x_inst.specs.declared.state.IsaFlags.{IsaFlags}
use Rattle.s390x_rows.specs.declared.opcodes.TheConstants as opcodes
use Rattle.s390x_typed_steps.specs.Parts.{CodePart, Relative, RelativeConstant, RelativeSymbol, step_parts}
use Rattle.s390x_typed_steps.specs.Steps.{Step, function_steps}
use Rattle.s390x_step_laws.specs.Given.{emitted_alone, emitted_trees}

-- LOAD ADDRESS RELATIVE LONG, which accesses nothing
abbrev pub larl : ℕ
larl = opcodes.LARL

-- a part is no load, store or comparison of an operand relative to the instruction: of such an operand it takes the address alone
abbrev pub IsNoRelativeAccess : CodePart → Type 0
IsNoRelativeAccess (Relative opcode register target) = opcode ≡ larl
IsNoRelativeAccess (RelativeConstant opcode register constant) = opcode ≡ larl
IsNoRelativeAccess (RelativeSymbol opcode register name offset) = opcode ≡ larl
IsNoRelativeAccess part = Unit {0}

-- so are all of these
abbrev pub AccessNothingRelative : List CodePart → Type 0
AccessNothingRelative [] = Unit {0}
AccessNothingRelative (part ∷ parts) = IsNoRelativeAccess part × AccessNothingRelative parts

-- so are those of each step of a function on a machine without such accesses
abbrev pub FunctionsAccessNothingRelative : Type 0
FunctionsAccessNothingRelative =
    (flags : IsaFlags) (e : Emission) (bs : List Block) → flags.no_relative_memory ≡ true →
    (k : ℕ) (s : Step) → slice_get (function_steps (emitted_trees flags e bs)) k ≡ Some s → AccessNothingRelative (step_parts s)

-- and those of each step that `emit` appends for such a machine
abbrev pub InstructionsAccessNothingRelative : Type 0
InstructionsAccessNothingRelative =
    (flags : IsaFlags) (e : Emission) (i : Inst) → flags.no_relative_memory ≡ true →
    (k : ℕ) (s : Step) → slice_get (function_steps (emitted_alone flags e i)) k ≡ Some s → AccessNothingRelative (step_parts s)
