-- How the code's rows and instructions stand for those of the definitions.
use Rattle.std.specs.Prelude.{ℕ, Bool, true, not, ◌&&◌, ◌||◌, nat_lt, Option, Some, None}
use Rattle.s390x_base.specs.Regs.{number_of}
use Rattle.s390x_inst.specs.Emission.{Emission}
use Rattle.s390x_enc.specs.Operands.{is_general_class, is_vector, is_first_float, may_stand_first}
use Rattle.s390x_typed_steps.specs.General.{low_displacement, low_12, low_halfword}
use Rattle.s390x_typed_steps.specs.MachineInstruction.{MachineInstruction, rx, rxy, rs, rsy, si, siy, sil, vrx}
use Rattle.s390x_typed_steps.specs.Operands.{resolved_operand}
use Rattle.s390x_typed_steps.specs.Memory.{StorageForm, RxForm, RsForm, SiForm, SilForm, VrxForm, FloatForm, MemoryInstruction}
use Rattle.s390x_address.specs.declared.rows.StorageRow.{StorageRow}
use Rattle.s390x_address.specs.declared.rows.StorageRow.TheVariants.{Rx, Rxy, Rs, Rsy, Si, Siy, Sil, Vrx}
use Rattle.s390x_address.specs.declared.rows.StorageRows.{StorageRows}
use Rattle.s390x_address.specs.declared.rows.StorageRows.TheVariants.{OneRegister, TwoRegisters, Byte, Halfword, Vector, Float}
use Rattle.s390x_address.specs.declared.memory.MemoryInst.{MemoryInst}

-- the machine instruction that a row of the code stands for
abbrev pub row_of : StorageRow → MachineInstruction
row_of (Rx opcode r1 b2 x2 disp) = rx opcode (number_of r1) (number_of b2) (number_of x2) (low_12 disp)
row_of (Rxy opcode r1 b2 x2 disp) = rxy opcode (number_of r1) (number_of b2) (number_of x2) (low_displacement disp)
row_of (Rs opcode r1 r3 b2 disp) = rs opcode (number_of r1) (number_of r3) (number_of b2) (low_12 disp)
row_of (Rsy opcode r1 r3 b2 disp) = rsy opcode (number_of r1) (number_of r3) (number_of b2) (low_displacement disp)
row_of (Si opcode b1 disp imm) = si opcode (number_of b1) (low_12 disp) imm
row_of (Siy opcode b1 disp imm) = siy opcode (number_of b1) (low_displacement disp) imm
row_of (Sil opcode b1 disp imm) = sil opcode (number_of b1) (low_12 disp) (low_halfword imm)
row_of (Vrx opcode v1 b2 x2 disp mask) = vrx opcode (number_of v1) (number_of b2) (number_of x2) mask (low_12 disp)

-- the registers may stand where the row has them, and a mask has four bits
abbrev pub row_encodes : StorageRow → Bool
row_encodes (Rx opcode r1 b2 x2 disp) = may_stand_first opcode r1 && is_general_class b2 && is_general_class x2
row_encodes (Rxy opcode r1 b2 x2 disp) = may_stand_first opcode r1 && is_general_class b2 && is_general_class x2
row_encodes (Rs opcode r1 r3 b2 disp) = is_general_class r1 && is_general_class r3 && is_general_class b2
row_encodes (Rsy opcode r1 r3 b2 disp) = is_general_class r1 && is_general_class r3 && is_general_class b2
row_encodes (Si opcode b1 disp imm) = is_general_class b1
row_encodes (Siy opcode b1 disp imm) = is_general_class b1
row_encodes (Sil opcode b1 disp imm) = is_general_class b1
row_encodes (Vrx opcode v1 b2 x2 disp mask) = nat_lt mask 16 && is_vector v1 && is_general_class b2 && is_general_class x2

-- the rows by format
abbrev pub storage_form_of : StorageRows → StorageForm
storage_form_of (OneRegister register rx_opcode rxy_opcode ril_opcode) = RxForm (number_of register) rx_opcode rxy_opcode ril_opcode
storage_form_of (TwoRegisters first second rs_opcode rsy_opcode) = RsForm (number_of first) (number_of second) rs_opcode rsy_opcode
storage_form_of (Byte imm si_opcode siy_opcode) = SiForm imm si_opcode siy_opcode
storage_form_of (Halfword imm sil_opcode) = SilForm (low_halfword imm) sil_opcode
storage_form_of (Vector register vrx_opcode mask) = VrxForm (number_of register) vrx_opcode mask
storage_form_of (Float register rx_opcode rxy_opcode) = FloatForm (number_of register) rx_opcode rxy_opcode

-- the opcode's first register operand is a general one; no opcode has any
abbrev pub rows_take_general : Option ℕ → Bool
rows_take_general None = true
rows_take_general (Some opcode) = not (is_first_float opcode)

-- the registers of the rows, but for the operand's, may stand there, and a mask has four bits
abbrev pub rows_encode : StorageRows → Bool
rows_encode (OneRegister register rx_opcode rxy_opcode ril_opcode) = is_general_class register && rows_take_general rx_opcode && rows_take_general rxy_opcode
rows_encode (TwoRegisters first second rs_opcode rsy_opcode) = is_general_class first && is_general_class second
rows_encode (Byte imm si_opcode siy_opcode) = true
rows_encode (Halfword imm sil_opcode) = true
rows_encode (Vector register vrx_opcode mask) = nat_lt mask 16 && is_vector register
rows_encode (Float register rx_opcode rxy_opcode) = may_stand_first rx_opcode register && may_stand_first rxy_opcode register

-- the opcode has 12 bits; no opcode has so many too
abbrev pub has_12_bits : Option ℕ → Bool
has_12_bits None = true
has_12_bits (Some opcode) = nat_lt opcode 4096

-- so has that of the row that is relative to the instruction
abbrev pub relative_encodes : StorageRows → Bool
relative_encodes (OneRegister register rx_opcode rxy_opcode ril_opcode) = has_12_bits ril_opcode
relative_encodes _ = true

-- its rows can be encoded, where its registers may stand there
abbrev pub may_encode : MemoryInst → Bool
may_encode x = relative_encodes x.rows && (not x.operands_valid || rows_encode x.rows)

-- an instruction with a memory operand
abbrev pub memory_instruction_of : MemoryInst → MemoryInstruction
memory_instruction_of x = record { form = storage_form_of x.rows; operand = x.operand; accesses = x.accesses; operands_valid = x.operands_valid; reads_scratch = x.reads_scratch }

-- an instruction with a memory operand, without a frame operand
abbrev pub in_state : Emission → MemoryInstruction → MemoryInstruction
in_state e x = record { form = x.form; operand = resolved_operand e x.operand; accesses = x.accesses; operands_valid = x.operands_valid; reads_scratch = x.reads_scratch }
