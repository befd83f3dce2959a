-- Instructions that are one machine instruction on general registers and immediates (cranelift-codegen, `emit.rs`).
use Rattle.std.specs.Prelude.{ℕ, ◌+◌, pos, neg_ℤ, Bool, true, cond, ◌&&◌, nat_eq, nat_lt, Option, Some, None}
use Rattle.s390x_base.specs.Regs.{number_of}
use Rattle.s390x_base.specs.declared.regs.Reg.TheVariants.{Real}
use Rattle.s390x_base.specs.declared.trap.TrapKind.{TrapKind}
use Rattle.s390x_base.specs.declared.trap.TrapKind.TheVariants.{IntegerDivisionByZero}
use Rattle.s390x_inst.specs.declared.inst.Inst.{Inst}
use Rattle.s390x_inst.specs.declared.inst.Inst.TheVariants as I
use Rattle.s390x_inst.specs.declared.ops.UnaryOp.{UnaryOp}
use Rattle.s390x_inst.specs.declared.ops.UnaryOp.TheVariants.{PopcntByte, PopcntReg}
use Rattle.s390x_rows.specs.declared.opcodes.TheConstants as opcodes
use Rattle.s390x_typed_steps.specs.General.{is_general, is_even_pair, reuses, reuses_pair, low_halfword, low_word, four_bits, low_displacement, low_byte, rotation, is_access}
use Rattle.s390x_typed_steps.specs.MachineInstruction.{MachineInstruction, rr, rre, rrf_ab, rrf_cde, ri_a, rie_a, rie_d, rie_f, rie_g, ril_a, rsy, rxy}
use Rattle.s390x_typed_steps.specs.VectorInstruction.{vector_row, vector_operands_valid, vector_stop}
use Rattle.s390x_typed_steps.specs.Opcodes.{alu_three, alu_two, cmp_two, cmp_trap, cmp_trap_signed, cmp_trap_unsigned, unary_two, alu_halfword, alu_three_halfword, alu_signed_word, alu_unsigned_word, cmp_halfword, cmp_signed_word, cmp_unsigned_word, alu_part, alu_half, load_part, load_half, insert_part}
use Rattle.s390x_typed_steps.specs.Opcodes.{insert_half, extend_two, shift_opcode, rotate_then, rotate_then_test, indexed_opcode, logical_indexed_opcode}

-- the machine instruction, and whether its registers may stand there: real general ones, and the input that has to be the output is it
pub record SingleInstruction : Type 0 where
  pub row : MachineInstruction
  pub operands_valid : Bool

-- opcodes of two digits are RR, others RRE
abbrev pub two_operands : (opcode d m : ℕ) → MachineInstruction
two_operands opcode d m = cond (nat_lt opcode 256) (rr opcode d m) (rre opcode d m)

-- two registers; none where there is no row
abbrev pub two_row : Option ℕ → (d m : ℕ) → Option MachineInstruction
two_row None d m = None
two_row (Some opcode) d m = Some (two_operands opcode d m)

-- three operands, or two where there is such a row and the first input is the output
abbrev pub three_row : (three two : Option ℕ) → (d n m : ℕ) → Option MachineInstruction
three_row None two d n m = None
three_row (Some three) None d n m = Some (rrf_ab three d n m 0)
three_row (Some three) (Some two) d n m = Some (cond (nat_eq d n) (two_operands two d m) (rrf_ab three d n m 0))

-- a register and an immediate of 16 bits; none where there is no row
abbrev pub halfword_row : Option ℕ → (d bits : ℕ) → Option MachineInstruction
halfword_row None d bits = None
halfword_row (Some opcode) d bits = Some (ri_a opcode d bits)

-- a register and an immediate of 32 bits; none where there is no row
abbrev pub word_row : Option ℕ → (d bits : ℕ) → Option MachineInstruction
word_row None d bits = None
word_row (Some opcode) d bits = Some (ril_a opcode d bits)

-- into another register, or two operands where the input is the output
abbrev pub three_halfword_row : (three two : Option ℕ) → (d n bits : ℕ) → Option MachineInstruction
three_halfword_row None two d n bits = None
three_halfword_row (Some three) None d n bits = Some (rie_d three d n bits)
three_halfword_row (Some three) (Some two) d n bits = Some (cond (nat_eq d n) (ri_a two d bits) (rie_d three d n bits))

-- two registers and a mask; none where there is no row
abbrev pub masked_row : Option ℕ → (n m mask : ℕ) → Option MachineInstruction
masked_row None n m mask = None
masked_row (Some opcode) n m mask = Some (rrf_cde opcode n m mask 0)

-- a register, an immediate of 16 bits and a mask; none where there is no row
abbrev pub masked_halfword_row : Option ℕ → (n bits mask : ℕ) → Option MachineInstruction
masked_halfword_row None n bits mask = None
masked_halfword_row (Some opcode) n bits mask = Some (rie_a opcode n bits mask)

-- one operand: of two registers, but for the count of ones, whose mode stands in a mask
abbrev pub unary_row : UnaryOp → (d n : ℕ) → Option MachineInstruction
unary_row PopcntByte d n = Some (rrf_cde opcodes.POPCNT d n 0 0)
unary_row PopcntReg d n = Some (rrf_cde opcodes.POPCNT d n 8 0)
unary_row op d n = two_row (unary_two op) d n

-- selected bits, numbered from the left below 64; none for others
abbrev pub rotated_row : Option ℕ → (d n start end first rotated : ℕ) → Option MachineInstruction
rotated_row None d n start end first rotated = None
rotated_row (Some opcode) d n start end first rotated = cond (nat_lt start 64 && nat_lt end 64) (Some (rie_f opcode d n first end rotated)) None

-- a base, an index and a displacement; none where there is no row
abbrev pub indexed_row : Option ℕ → (d base index displacement : ℕ) → Option MachineInstruction
indexed_row None d base index displacement = None
indexed_row (Some opcode) d base index displacement = Some (rxy opcode d base index displacement)

-- so many bytes are taken from the stack pointer: ADD HALFWORD IMMEDIATE of the size with a minus sign where it fits, else SUBTRACT LOGICAL IMMEDIATE
abbrev pub allocate_row : (size : ℕ) → MachineInstruction
allocate_row size = cond (nat_lt size 32768) (ri_a opcodes.AGHI 15 (low_halfword (neg_ℤ (pos size)))) (ril_a opcodes.SLGFI 15 (low_word (pos size)))

-- with these registers; none where there is no row
abbrev pub single_with : Bool → Option MachineInstruction → Option SingleInstruction
single_with operands_valid None = None
single_with operands_valid (Some row) = Some (record { row = row; operands_valid = operands_valid })

-- the one machine instruction of an instruction, where it is one
abbrev pub single_instruction : Inst → Option SingleInstruction
single_instruction (I.AluRRR op rd rn rm) = single_with (is_general rd && is_general rn && is_general rm) (three_row (alu_three op) (alu_two op) (number_of rd) (number_of rn) (number_of rm))
single_instruction (I.AluRR op rd ri rm) = single_with (reuses rd ri && is_general rm) (two_row (alu_two op) (number_of rd) (number_of rm))
single_instruction (I.UnaryRR op rd rn) = single_with (is_general rd && is_general rn) (unary_row op (number_of rd) (number_of rn))
single_instruction (I.CmpRR op rn rm) = single_with (is_general rn && is_general rm) (two_row (cmp_two op) (number_of rn) (number_of rm))
single_instruction (I.Mov64 rd rm) = single_with (is_general rd && is_general rm) (two_row (Some opcodes.LGR) (number_of rd) (number_of rm))
single_instruction (I.MovPReg rd rm) = single_with (is_general rd && is_general (Real rm)) (two_row (Some opcodes.LGR) (number_of rd) (number_of (Real rm)))
single_instruction (I.Mov32 rd rm) = single_with (is_general rd && is_general rm) (two_row (Some opcodes.LR) (number_of rd) (number_of rm))
single_instruction (I.AluRRSImm16 op rd rn imm) = single_with (is_general rd && is_general rn) (three_halfword_row (alu_three_halfword op) (alu_halfword op) (number_of rd) (number_of rn) (low_halfword imm))
single_instruction (I.AluRSImm16 op rd ri imm) = single_with (reuses rd ri) (halfword_row (alu_halfword op) (number_of rd) (low_halfword imm))
single_instruction (I.AluRSImm32 op rd ri imm) = single_with (reuses rd ri) (word_row (alu_signed_word op) (number_of rd) (low_word imm))
single_instruction (I.AluRUImm32 op rd ri imm) = single_with (reuses rd ri) (word_row (alu_unsigned_word op) (number_of rd) (low_word (pos imm)))
single_instruction (I.CmpRSImm16 op rn imm) = single_with (is_general rn) (halfword_row (cmp_halfword op) (number_of rn) (low_halfword imm))
single_instruction (I.CmpRSImm32 op rn imm) = single_with (is_general rn) (word_row (cmp_signed_word op) (number_of rn) (low_word imm))
single_instruction (I.CmpRUImm32 op rn imm) = single_with (is_general rn) (word_row (cmp_unsigned_word op) (number_of rn) (low_word (pos imm)))
single_instruction (I.Mov32Imm rd imm) = single_with (is_general rd) (word_row (Some opcodes.IILF) (number_of rd) (low_word (pos imm)))
single_instruction (I.Mov32SImm16 rd imm) = single_with (is_general rd) (halfword_row (Some opcodes.LHI) (number_of rd) (low_halfword imm))
single_instruction (I.Mov64SImm16 rd imm) = single_with (is_general rd) (halfword_row (Some opcodes.LGHI) (number_of rd) (low_halfword imm))
single_instruction (I.Mov64SImm32 rd imm) = single_with (is_general rd) (word_row (Some opcodes.LGFI) (number_of rd) (low_word imm))
single_instruction (I.AluRUImm16Shifted op rd ri imm) = single_with (reuses rd ri) (halfword_row (alu_part op imm.shift) (number_of rd) (low_halfword (pos imm.bits)))
single_instruction (I.AluRUImm32Shifted op rd ri imm) = single_with (reuses rd ri) (word_row (alu_half op imm.shift) (number_of rd) (low_word (pos imm.bits)))
single_instruction (I.Mov64UImm16Shifted rd imm) = single_with (is_general rd) (halfword_row (load_part imm.shift) (number_of rd) (low_halfword (pos imm.bits)))
single_instruction (I.Mov64UImm32Shifted rd imm) = single_with (is_general rd) (word_row (load_half imm.shift) (number_of rd) (low_word (pos imm.bits)))
single_instruction (I.Insert64UImm16Shifted rd ri imm) = single_with (reuses rd ri) (halfword_row (insert_part imm.shift) (number_of rd) (low_halfword (pos imm.bits)))
single_instruction (I.Insert64UImm32Shifted rd ri imm) = single_with (reuses rd ri) (word_row (insert_half imm.shift) (number_of rd) (low_word (pos imm.bits)))
single_instruction (I.Extend rd rn signed from to) = single_with (is_general rd && is_general rn) (two_row (extend_two signed from to) (number_of rd) (number_of rn))
single_instruction (I.LoadAR rd ar) = single_with (is_general rd && is_access ar) (two_row (Some opcodes.EAR) (number_of rd) (four_bits ar))
single_instruction (I.InsertAR rd ri ar) = single_with (reuses rd ri && is_access ar) (two_row (Some opcodes.EAR) (number_of rd) (four_bits ar))
single_instruction (I.ShiftRR op rd rn amount register) =
    single_with (is_general rd && is_general rn && is_general register) (Some (rsy (shift_opcode op) (number_of rd) (number_of rn) (number_of register) (low_byte amount)))
single_instruction (I.RxSBG op rd ri rn start end amount) =
    single_with (reuses rd ri && is_general rn) (rotated_row (Some (rotate_then op)) (number_of rd) (number_of rn) start end start (rotation amount))
single_instruction (I.RxSBGTest op rd rn start end amount) =
    single_with (is_general rd && is_general rn) (rotated_row (rotate_then_test op) (number_of rd) (number_of rn) start end (start + 128) (rotation amount))
single_instruction (I.SMulWide rd rn rm) =
    single_with (is_even_pair rd.hi rd.lo && is_general rn && is_general rm) (Some (rrf_ab opcodes.MGRK (number_of rd.hi) (number_of rn) (number_of rm) 0))
single_instruction (I.UMulWide rd ri rn) = single_with (is_even_pair rd.hi rd.lo && reuses rd.lo ri && is_general rn) (Some (rre opcodes.MLGR (number_of rd.hi) (number_of rn)))
single_instruction (I.Flogr rd rn) = single_with (is_even_pair rd.hi rd.lo && is_general rn) (Some (rre opcodes.FLOGR (number_of rd.hi) (number_of rn)))
single_instruction (I.SDivMod32 rd ri rn) = single_with (is_even_pair rd.hi rd.lo && reuses rd.lo ri && is_general rn) (Some (rre opcodes.DSGFR (number_of rd.hi) (number_of rn)))
single_instruction (I.SDivMod64 rd ri rn) = single_with (is_even_pair rd.hi rd.lo && reuses rd.lo ri && is_general rn) (Some (rre opcodes.DSGR (number_of rd.hi) (number_of rn)))
single_instruction (I.UDivMod32 rd ri rn) = single_with (is_even_pair rd.hi rd.lo && reuses_pair rd ri && is_general rn) (Some (rre opcodes.DLR (number_of rd.hi) (number_of rn)))
single_instruction (I.UDivMod64 rd ri rn) = single_with (is_even_pair rd.hi rd.lo && reuses_pair rd ri && is_general rn) (Some (rre opcodes.DLGR (number_of rd.hi) (number_of rn)))
single_instruction (I.CmpTrapRR op rn rm mask code) = single_with (is_general rn && is_general rm) (masked_row (cmp_trap op) (number_of rn) (number_of rm) (four_bits mask))
single_instruction (I.CmpTrapRSImm16 op rn imm mask code) = single_with (is_general rn) (masked_halfword_row (cmp_trap_signed op) (number_of rn) (low_halfword imm) (four_bits mask))
single_instruction (I.CmpTrapRUImm16 op rn imm mask code) = single_with (is_general rn) (masked_halfword_row (cmp_trap_unsigned op) (number_of rn) (low_halfword (pos imm)) (four_bits mask))
single_instruction (I.CMov32 rd mask ri rm) = single_with (reuses rd ri && is_general rm) (Some (rrf_cde opcodes.LOCR (number_of rd) (number_of rm) (four_bits mask) 0))
single_instruction (I.CMov64 rd mask ri rm) = single_with (reuses rd ri && is_general rm) (Some (rrf_cde opcodes.LOCGR (number_of rd) (number_of rm) (four_bits mask) 0))
single_instruction (I.CMov32SImm16 rd mask ri imm) = single_with (reuses rd ri) (Some (rie_g opcodes.LOCHI (number_of rd) (low_halfword imm) (four_bits mask)))
single_instruction (I.CMov64SImm16 rd mask ri imm) = single_with (reuses rd ri) (Some (rie_g opcodes.LOCGHI (number_of rd) (low_halfword imm) (four_bits mask)))
single_instruction (I.LoadIndexedAddr rd base index offset size) =
    single_with (is_general rd && is_general base && is_general index) (indexed_row (indexed_opcode size) (number_of rd) (number_of base) (number_of index) (low_displacement offset))
single_instruction (I.LoadLogicalIndexedAddr rd base index offset size) =
    single_with (is_general rd && is_general base && is_general index) (indexed_row (logical_indexed_opcode size) (number_of rd) (number_of base) (number_of index) (low_displacement offset))
single_instruction (I.AllocateArgs size) = Some (record { row = allocate_row size; operands_valid = true })
-- BRANCH ON CONDITION to no address, and under a mask that selects nothing
single_instruction I.Fence = Some (record { row = rr opcodes.BCR 14 0; operands_valid = true })
single_instruction I.Nop2 = Some (record { row = rr opcodes.BCR 0 7; operands_valid = true })
single_instruction (I.Vector v) = single_with (vector_operands_valid v) (vector_row v)
single_instruction _ = None

-- the code of the stop of a division, or of a comparison that traps
abbrev pub stop_code : Inst → Option TrapKind
stop_code (I.SDivMod32 rd ri rn) = Some IntegerDivisionByZero
stop_code (I.SDivMod64 rd ri rn) = Some IntegerDivisionByZero
stop_code (I.UDivMod32 rd ri rn) = Some IntegerDivisionByZero
stop_code (I.UDivMod64 rd ri rn) = Some IntegerDivisionByZero
stop_code (I.CmpTrapRR op rn rm mask code) = Some code
stop_code (I.CmpTrapRSImm16 op rn imm mask code) = Some code
stop_code (I.CmpTrapRUImm16 op rn imm mask code) = Some code
stop_code (I.Vector v) = vector_stop v
stop_code _ = None
