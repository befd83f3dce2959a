-- The emitters of operands: what they read besides the operand, and why they refuse.
use Rattle.std.specs.Prelude.{ℕ, ℤ, Bool, true, false, cond, not, ◌&&◌, ◌||◌, nat_eq, nat_le, nat_lt, Option, Some, None}
use Rattle.s390x_base.specs.Regs.{number_of}
use Rattle.s390x_base.specs.declared.regs.Reg.{Reg}
use Rattle.s390x_base.specs.declared.error.EmitError.{EmitError}
use Rattle.s390x_buffer.specs.State.{BufferState, mark_cause, put_cause}
use Rattle.s390x_inst.specs.declared.args.MemArg.{MemArg}
use Rattle.s390x_inst.specs.declared.state.EmitInfo.{EmitInfo}
use Rattle.s390x_rows.specs.declared.opcodes.TheConstants as opcodes
use Rattle.s390x_typed_steps.specs.Causes.{first_emit_cause, declared_in, memory_cause}
use Rattle.s390x_typed_steps.specs.General.{is_general, low_halfword}
use Rattle.s390x_typed_steps.specs.Memory.{MemoryInstruction, RxForm, RsForm, SiForm, SilForm, VrxForm, FloatForm, holds_scratch}
use Rattle.s390x_typed_steps.specs.Operands.{is_numbered}
use Rattle.s390x_typed_steps.specs.Parts.{memory_parts, parts_size}
use Rattle.s390x_typed_steps.specs.VectorInstruction.{is_vector}

-- that the buffer is poisoned, then the causes of the instruction by the buffer's blocks and constants, then its length
abbrev pub access_cause : BufferState → MemoryInstruction → Option EmitError
access_cause s x = first_emit_cause (mark_cause s) (first_emit_cause (memory_cause (declared_in s) x) (put_cause s (parts_size (memory_parts x))))

-- the rows of loads and of LOAD ADDRESS, which write their register and don't read it, with displacements of 20 bits
abbrev pub loads_register : ℕ → Bool
loads_register opcode =
    nat_eq opcode opcodes.LG || nat_eq opcode opcodes.LRVG || nat_eq opcode opcodes.LGF || nat_eq opcode opcodes.LGH || nat_eq opcode opcodes.LLGF || nat_eq opcode opcodes.LRV
    || nat_eq opcode opcodes.LRVH || nat_eq opcode opcodes.LY || nat_eq opcode opcodes.LAY || nat_eq opcode opcodes.LB || nat_eq opcode opcodes.LGB || nat_eq opcode opcodes.LHY
    || nat_eq opcode opcodes.LLGC || nat_eq opcode opcodes.LLGH || nat_eq opcode opcodes.LLC || nat_eq opcode opcodes.LLH

-- each instruction that has rows with a displacement has one of 20 bits
abbrev pub reads_register : Option ℕ → Bool
reads_register None = true
reads_register (Some opcode) = not (loads_register opcode)

-- the row relative to the instruction; none where it accesses memory on a machine that lacks such rows
abbrev pub relative_opcode : EmitInfo → (accesses : Bool) → Option ℕ → Option ℕ
relative_opcode info accesses opcode = cond (accesses && info.isa_flags.no_relative_memory) None opcode

-- a register and an operand
abbrev pub one_register : Reg → (rx_opcode rxy_opcode ril_opcode : Option ℕ) → (accesses : Bool) → MemArg → MemoryInstruction
one_register rd rx_opcode rxy_opcode ril_opcode accesses mem =
    record { form = RxForm (number_of rd) rx_opcode rxy_opcode ril_opcode; operand = mem; accesses = accesses; operands_valid = is_general rd; reads_scratch = reads_register rxy_opcode && is_numbered 1 rd }

-- an immediate of 8 bits and an operand
abbrev pub byte_immediate : (imm si_opcode siy_opcode : ℕ) → (accesses : Bool) → MemArg → MemoryInstruction
byte_immediate imm si_opcode siy_opcode accesses mem =
    record { form = SiForm imm si_opcode siy_opcode; operand = mem; accesses = accesses; operands_valid = true; reads_scratch = false }

-- what reads %r1 of two registers: a multiple load none, a multiple store the registers from the first to the last, a compare and swap both,
-- another row that changes memory the second one
abbrev pub reads_registers : Option ℕ → (rd rn : Reg) → Bool
reads_registers None rd rn = is_numbered 1 rd || is_numbered 1 rn
reads_registers (Some opcode) rd rn =
    cond (nat_eq opcode opcodes.LMG) false
    (cond (nat_eq opcode opcodes.STMG) (holds_scratch rd rn)
    (cond (nat_eq opcode opcodes.CSY || nat_eq opcode opcodes.CSG) (is_numbered 1 rd || is_numbered 1 rn) (is_numbered 1 rn)))

-- the rows of a multiple load and a multiple store, which name the registers from the first to the last
abbrev pub is_multiple : Option ℕ → Bool
is_multiple None = false
is_multiple (Some opcode) = nat_eq opcode opcodes.LMG || nat_eq opcode opcodes.STMG

-- both registers are real Int ones, and of a multiple load or store the first isn't above the last
abbrev pub pair_valid : Option ℕ → (rd rn : Reg) → Bool
pair_valid rsy_opcode rd rn = is_general rd && is_general rn && (not (is_multiple rsy_opcode) || nat_le (number_of rd) (number_of rn))

-- two registers and an operand
abbrev pub two_registers : (rd rn : Reg) → (rs_opcode rsy_opcode : Option ℕ) → (accesses : Bool) → MemArg → MemoryInstruction
two_registers rd rn rs_opcode rsy_opcode accesses mem =
    record { form = RsForm (number_of rd) (number_of rn) rs_opcode rsy_opcode; operand = mem; accesses = accesses; operands_valid = pair_valid rsy_opcode rd rn; reads_scratch = reads_registers rsy_opcode rd rn }

-- an immediate of 16 bits and an operand
abbrev pub halfword_immediate : (imm : ℤ) → (sil_opcode : ℕ) → (accesses : Bool) → MemArg → MemoryInstruction
halfword_immediate imm sil_opcode accesses mem =
    record { form = SilForm (low_halfword imm) sil_opcode; operand = mem; accesses = accesses; operands_valid = true; reads_scratch = false }

-- a vector register, an operand and a mask
abbrev pub vector_register : Reg → (vrx_opcode mask : ℕ) → (accesses : Bool) → MemArg → MemoryInstruction
vector_register rd vrx_opcode mask accesses mem =
    record { form = VrxForm (number_of rd) vrx_opcode mask; operand = mem; accesses = accesses; operands_valid = is_vector rd; reads_scratch = false }

-- a float register, which is the left half of a vector register below 16, and an operand
abbrev pub float_register : Reg → (rx_opcode rxy_opcode : ℕ) → (accesses : Bool) → MemArg → MemoryInstruction
float_register rd rx_opcode rxy_opcode accesses mem =
    record { form = FloatForm (number_of rd) rx_opcode rxy_opcode; operand = mem; accesses = accesses; operands_valid = is_vector rd && nat_lt (number_of rd) 16; reads_scratch = false }
