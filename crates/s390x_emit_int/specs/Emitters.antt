-- An instruction with a memory operand, and what the emitter of its rows' format puts.
use Rattle.std.specs.Prelude.{◌≡◌, ℤ}
use Rattle.s390x_base.specs.Regs.{number_of}
use Rattle.s390x_base.specs.declared.regs.Reg.{Reg}
use Rattle.s390x_typed_steps.specs.Memory.{StorageForm, RxForm, RsForm, SiForm, SilForm, VrxForm, FloatForm, MemoryInstruction}
use Rattle.s390x_address.specs.Emitters.{one_register, two_registers, byte_immediate, halfword_immediate, vector_register, float_register}

-- with these rows the instruction is that of the emitter, with the registers or the immediate of a call
abbrev pub FormIsEmitted : StorageForm → MemoryInstruction → Type 0
FormIsEmitted (RxForm register rx_opcode rxy_opcode ril_opcode) x = (rd : Reg) × (number_of rd ≡ register) × (x ≡ one_register rd rx_opcode rxy_opcode ril_opcode x.accesses x.operand)
FormIsEmitted (RsForm first second rs_opcode rsy_opcode) x = (rd : Reg) × (rn : Reg) × (x ≡ two_registers rd rn rs_opcode rsy_opcode x.accesses x.operand)
FormIsEmitted (SiForm imm si_opcode siy_opcode) x = x ≡ byte_immediate imm si_opcode siy_opcode x.accesses x.operand
FormIsEmitted (SilForm bits sil_opcode) x = (imm : ℤ) × (x ≡ halfword_immediate imm sil_opcode x.accesses x.operand)
FormIsEmitted (VrxForm register vrx_opcode mask) x = (rd : Reg) × (number_of rd ≡ register) × (x ≡ vector_register rd vrx_opcode mask x.accesses x.operand)
FormIsEmitted (FloatForm register rx_opcode rxy_opcode) x = (rd : Reg) × (number_of rd ≡ register) × (x ≡ float_register rd rx_opcode rxy_opcode x.accesses x.operand)

-- the instruction is that of the emitter of its rows' format
abbrev pub IsEmitted : MemoryInstruction → Type 0
IsEmitted x = FormIsEmitted x.form x
