-- A load or a store of a doubleword at a register and an offset.
use Rattle.std.specs.Prelude.{◌≡◌, ℕ, List, Bool, true, ◌&&◌, ◌||◌, cond, None, Some}
use Rattle.s390x_base.specs.Regs.{number_of}
use Rattle.s390x_inst.specs.declared.args.MemArg.TheVariants.{RegOffset}
use Rattle.s390x_inst.specs.declared.inst.Inst.{Inst}
use Rattle.s390x_rows.specs.declared.opcodes.TheConstants as opcodes
use Rattle.s390x_typed_steps.specs.Causes.{Declared, memory_cause}
use Rattle.s390x_typed_steps.specs.General.{is_general}
use Rattle.s390x_typed_steps.specs.Memory.{RxForm, MemoryInstruction}
use Rattle.s390x_typed_steps.specs.Operands.{is_numbered}
use Rattle.s390x_address.specs.Lowerings.{IsBehind}
use Rattle.s390x_emit_int.specs.declared.doubleword.Doubleword.{Doubleword}

-- LOAD or STORE (64)
abbrev pub opcode_of : Doubleword → ℕ
opcode_of a = cond a.stores opcodes.STG opcodes.LG

-- LOAD or STORE RELATIVE LONG (64)
abbrev pub relative_opcode_of : Doubleword → ℕ
relative_opcode_of a = cond a.stores opcodes.STGRL opcodes.LGRL

-- it as an instruction with a memory operand
abbrev pub instruction_of : Doubleword → MemoryInstruction
instruction_of a = record { form = RxForm (number_of a.register) None (Some (opcode_of a)) (Some (relative_opcode_of a)); operand = RegOffset a.base a.off a.flags; accesses = true; operands_valid = is_general a.register; reads_scratch = a.stores && is_numbered 1 a.register }

-- it reads %r1 as its base, or stores it
abbrev pub reads_scratch : Doubleword → Bool
reads_scratch a = is_numbered 1 a.base || (a.stores && is_numbered 1 a.register)

-- an instruction whose access is behind these helpers, by the row that has this code, and which no cause refuses
abbrev pub IsPassed : MemoryInstruction → List Inst → List ℕ → Type 0
IsPassed x helpers code = IsBehind x helpers code × ((D : Declared) → memory_cause D x ≡ None)
