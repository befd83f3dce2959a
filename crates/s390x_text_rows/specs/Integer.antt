-- The texts of instructions on general registers and immediates (cranelift-codegen, `mod.rs`).
use Rattle.std.specs.Prelude.{ℕ, ◌+◌, List, [], ◌∷◌, ◌++◌, codes, Bool, cond, ◌&&◌, nat_lt, Option, Some, None}
use Rattle.std.specs.Fmt.{decimal, signed_decimal}
use Rattle.s390x_base.specs.declared.regs.Reg.{Reg}
use Rattle.s390x_base.specs.declared.regs.WritableRegPair.{WritableRegPair}
use Rattle.s390x_inst.specs.declared.inst.Inst.{Inst}
use Rattle.s390x_inst.specs.declared.inst.Inst.TheVariants as I
use Rattle.s390x_inst.specs.declared.ops.ALUOp.{ALUOp}
use Rattle.std.specs.Option.{option_map}
use Rattle.s390x_format.specs.Stems.{stem_of}
use Rattle.s390x_typed_steps.specs.Opcodes.{alu_part, alu_half, load_part, load_half, insert_part, insert_half, extend_two, indexed_opcode, logical_indexed_opcode}
use Rattle.s390x_inst.specs.declared.ops.UnaryOp.{UnaryOp}
use Rattle.s390x_inst.specs.declared.ops.UnaryOp.TheVariants.{PopcntReg}
use Rattle.s390x_typed_steps.specs.General.{rotation}
use Rattle.s390x_job_fields.specs.Atoms.{reg_text, real_text}
use Rattle.s390x_text_rows.specs.Texts.{Text, row, fixed_text, instruction_text}
use Rattle.s390x_text_rows.specs.Operands.{is_reg, reused_text, rotated_text, pair_text, pair_cause, reused_pair_text, reused_low_text, amount_text, access_register_text, cond_text, indexed_text}
use Rattle.s390x_text_rows.specs.Mnemonics.{alu_three_name, alu_two_name, alu_halfword_name, alu_three_halfword_name, alu_signed_word_name, alu_unsigned_word_name, cmp_two_name, cmp_halfword_name, cmp_signed_word_name, cmp_unsigned_word_name, cmp_trap_name, cmp_trap_signed_name, cmp_trap_unsigned_name, shift_name, rotate_name, rotate_test_name, unary_name}

-- ---- mnemonics that a number chooses

-- on a part of 16 bits, by its number from the right; of 32-bit operators the right two alone
abbrev pub alu_part_name : ALUOp → ℕ → Option (List ℕ)
alu_part_name op shift = option_map stem_of (alu_part op shift)

-- on a half of 32 bits, by its number from the right; of 32-bit operators the right one alone
abbrev pub alu_half_name : ALUOp → ℕ → Option (List ℕ)
alu_half_name op shift = option_map stem_of (alu_half op shift)

-- a part of 16 bits alone
abbrev pub load_part_name : ℕ → Option (List ℕ)
load_part_name shift = option_map stem_of (load_part shift)

-- a half of 32 bits alone
abbrev pub load_half_name : ℕ → Option (List ℕ)
load_half_name shift = option_map stem_of (load_half shift)

-- a part of 16 bits in a register
abbrev pub insert_part_name : ℕ → Option (List ℕ)
insert_part_name shift = option_map stem_of (insert_part shift)

-- a half of 32 bits in a register
abbrev pub insert_half_name : ℕ → Option (List ℕ)
insert_half_name shift = option_map stem_of (insert_half shift)

-- an extension to 32 or to 64 bits
abbrev pub extend_name : Bool → (from to : ℕ) → Option (List ℕ)
extend_name signed from to = option_map stem_of (extend_two signed from to)

-- an indexed address by the size of its elements, the index with its sign
abbrev pub indexed_name : ℕ → Option (List ℕ)
indexed_name size = option_map stem_of (indexed_opcode size)

-- an indexed address by the size of its elements, the index without a sign
abbrev pub logical_indexed_name : ℕ → Option (List ℕ)
logical_indexed_name size = option_map stem_of (logical_indexed_opcode size)

-- selected bits are numbered below 64; no row for others
abbrev pub selected_name : Option (List ℕ) → (start end : ℕ) → Option (List ℕ)
selected_name name start end = cond (nat_lt start 64 && nat_lt end 64) name None

-- ---- rows

-- into another register, or two operands where there is such a row and the input is the output
abbrev pub three_text : (three two : Option (List ℕ)) → (rd rn : Reg) → (last : List ℕ) → Text
three_text None two rd rn last = row None []
three_text (Some three) None rd rn last = row (Some three) (reg_text rd ∷ reg_text rn ∷ last ∷ [])
three_text (Some three) (Some two) rd rn last = cond (is_reg rd rn) (row (Some two) (reg_text rd ∷ last ∷ [])) (row (Some three) (reg_text rd ∷ reg_text rn ∷ last ∷ []))

-- an output and an operand; a count of ones by whole registers shows its mode
abbrev pub unary_operands : UnaryOp → (rd rn : Reg) → List (List ℕ)
unary_operands PopcntReg rd rn = reg_text rd ∷ reg_text rn ∷ decimal 8 ∷ []
unary_operands _ rd rn = reg_text rd ∷ reg_text rn ∷ []

-- a row whose first operand is a pair
abbrev pub pair_row : List ℕ → WritableRegPair → List (List ℕ) → Text
pair_row name rd xs = record { cause = pair_cause rd.hi rd.lo; bytes = instruction_text name (pair_text rd.hi rd.lo ∷ xs) }

-- a row with a condition
abbrev pub conditional_text : List ℕ → (mask : ℕ) → List (List ℕ) → Text
conditional_text name mask xs = fixed_text (instruction_text (name ++ cond_text mask) xs)

-- a row with a condition, where there may be no row
abbrev pub conditional_row : Option (List ℕ) → (mask : ℕ) → List (List ℕ) → Text
conditional_row None mask xs = row None []
conditional_row (Some name) mask xs = conditional_text name mask xs

-- ---- instructions

-- operators on registers and immediates
abbrev pub arithmetic_text : Inst → Option Text
arithmetic_text (I.AluRRR op rd rn rm) = Some (three_text (alu_three_name op) (alu_two_name op) rd rn (reg_text rm))
arithmetic_text (I.AluRRSImm16 op rd rn imm) = Some (three_text (alu_three_halfword_name op) (alu_halfword_name op) rd rn (signed_decimal imm))
arithmetic_text (I.AluRR op rd ri rm) = Some (row (alu_two_name op) (reused_text rd ri ∷ reg_text rm ∷ []))
arithmetic_text (I.AluRSImm16 op rd ri imm) = Some (row (alu_halfword_name op) (reused_text rd ri ∷ signed_decimal imm ∷ []))
arithmetic_text (I.AluRSImm32 op rd ri imm) = Some (row (alu_signed_word_name op) (reused_text rd ri ∷ signed_decimal imm ∷ []))
arithmetic_text (I.AluRUImm32 op rd ri imm) = Some (row (alu_unsigned_word_name op) (reused_text rd ri ∷ decimal imm ∷ []))
arithmetic_text (I.AluRUImm16Shifted op rd ri imm) = Some (row (alu_part_name op imm.shift) (reused_text rd ri ∷ decimal imm.bits ∷ []))
arithmetic_text (I.AluRUImm32Shifted op rd ri imm) = Some (row (alu_half_name op imm.shift) (reused_text rd ri ∷ decimal imm.bits ∷ []))
arithmetic_text (I.UnaryRR op rd rn) = Some (fixed_text (instruction_text (unary_name op) (unary_operands op rd rn)))
arithmetic_text (I.ShiftRR op rd rn amount register) = Some (fixed_text (instruction_text (shift_name op) (reg_text rd ∷ reg_text rn ∷ amount_text amount register ∷ [])))
arithmetic_text (I.RxSBG op rd ri rn start end amount) =
    Some (row (selected_name (Some (rotate_name op)) start end) (reused_text rd ri ∷ reg_text rn ∷ rotated_text start end (rotation amount) ∷ []))
arithmetic_text (I.RxSBGTest op rd rn start end amount) =
    Some (row (selected_name (rotate_test_name op) start end) (reg_text rd ∷ reg_text rn ∷ rotated_text (start + 128) end (rotation amount) ∷ []))
arithmetic_text _ = None

-- products, divisions and counts of leading zeros, whose output is a pair
abbrev pub pair_instruction_text : Inst → Option Text
pair_instruction_text (I.SMulWide rd rn rm) = Some (pair_row (codes "mgrk") rd (reg_text rn ∷ reg_text rm ∷ []))
pair_instruction_text (I.UMulWide rd ri rn) = Some (fixed_text (instruction_text (codes "mlgr") (reused_low_text rd.hi rd.lo ri ∷ reg_text rn ∷ [])))
pair_instruction_text (I.SDivMod32 rd ri rn) = Some (fixed_text (instruction_text (codes "dsgfr") (reused_low_text rd.hi rd.lo ri ∷ reg_text rn ∷ [])))
pair_instruction_text (I.SDivMod64 rd ri rn) = Some (fixed_text (instruction_text (codes "dsgr") (reused_low_text rd.hi rd.lo ri ∷ reg_text rn ∷ [])))
pair_instruction_text (I.UDivMod32 rd ri rn) = Some (fixed_text (instruction_text (codes "dlr") (reused_pair_text rd.hi rd.lo ri.hi ri.lo ∷ reg_text rn ∷ [])))
pair_instruction_text (I.UDivMod64 rd ri rn) = Some (fixed_text (instruction_text (codes "dlgr") (reused_pair_text rd.hi rd.lo ri.hi ri.lo ∷ reg_text rn ∷ [])))
pair_instruction_text (I.Flogr rd rn) = Some (pair_row (codes "flogr") rd (reg_text rn ∷ []))
pair_instruction_text _ = None

-- comparisons, some of which trap
abbrev pub compare_text : Inst → Option Text
compare_text (I.CmpRR op rn rm) = Some (row (cmp_two_name op) (reg_text rn ∷ reg_text rm ∷ []))
compare_text (I.CmpRSImm16 op rn imm) = Some (row (cmp_halfword_name op) (reg_text rn ∷ signed_decimal imm ∷ []))
compare_text (I.CmpRSImm32 op rn imm) = Some (row (cmp_signed_word_name op) (reg_text rn ∷ signed_decimal imm ∷ []))
compare_text (I.CmpRUImm32 op rn imm) = Some (row (cmp_unsigned_word_name op) (reg_text rn ∷ decimal imm ∷ []))
compare_text (I.CmpTrapRR op rn rm mask code) = Some (conditional_row (cmp_trap_name op) mask (reg_text rn ∷ reg_text rm ∷ []))
compare_text (I.CmpTrapRSImm16 op rn imm mask code) = Some (conditional_row (cmp_trap_signed_name op) mask (reg_text rn ∷ signed_decimal imm ∷ []))
compare_text (I.CmpTrapRUImm16 op rn imm mask code) = Some (conditional_row (cmp_trap_unsigned_name op) mask (reg_text rn ∷ decimal imm ∷ []))
compare_text _ = None

-- moves, and addresses that are summed
abbrev pub move_text : Inst → Option Text
move_text (I.Mov64 rd rm) = Some (fixed_text (instruction_text (codes "lgr") (reg_text rd ∷ reg_text rm ∷ [])))
move_text (I.MovPReg rd rm) = Some (fixed_text (instruction_text (codes "lgr") (reg_text rd ∷ real_text rm ∷ [])))
move_text (I.Mov32 rd rm) = Some (fixed_text (instruction_text (codes "lr") (reg_text rd ∷ reg_text rm ∷ [])))
move_text (I.Mov32Imm rd imm) = Some (fixed_text (instruction_text (codes "iilf") (reg_text rd ∷ decimal imm ∷ [])))
move_text (I.Mov32SImm16 rd imm) = Some (fixed_text (instruction_text (codes "lhi") (reg_text rd ∷ signed_decimal imm ∷ [])))
move_text (I.Mov64SImm16 rd imm) = Some (fixed_text (instruction_text (codes "lghi") (reg_text rd ∷ signed_decimal imm ∷ [])))
move_text (I.Mov64SImm32 rd imm) = Some (fixed_text (instruction_text (codes "lgfi") (reg_text rd ∷ signed_decimal imm ∷ [])))
move_text (I.Mov64UImm16Shifted rd imm) = Some (row (load_part_name imm.shift) (reg_text rd ∷ decimal imm.bits ∷ []))
move_text (I.Mov64UImm32Shifted rd imm) = Some (row (load_half_name imm.shift) (reg_text rd ∷ decimal imm.bits ∷ []))
move_text (I.Insert64UImm16Shifted rd ri imm) = Some (row (insert_part_name imm.shift) (reused_text rd ri ∷ decimal imm.bits ∷ []))
move_text (I.Insert64UImm32Shifted rd ri imm) = Some (row (insert_half_name imm.shift) (reused_text rd ri ∷ decimal imm.bits ∷ []))
move_text (I.CMov32 rd mask ri rm) = Some (conditional_text (codes "locr") mask (reused_text rd ri ∷ reg_text rm ∷ []))
move_text (I.CMov64 rd mask ri rm) = Some (conditional_text (codes "locgr") mask (reused_text rd ri ∷ reg_text rm ∷ []))
move_text (I.CMov32SImm16 rd mask ri imm) = Some (conditional_text (codes "lochi") mask (reused_text rd ri ∷ signed_decimal imm ∷ []))
move_text (I.CMov64SImm16 rd mask ri imm) = Some (conditional_text (codes "locghi") mask (reused_text rd ri ∷ signed_decimal imm ∷ []))
move_text (I.Extend rd rn signed from to) = Some (row (extend_name signed from to) (reg_text rd ∷ reg_text rn ∷ []))
move_text (I.LoadAR rd ar) = Some (fixed_text (instruction_text (codes "ear") (reg_text rd ∷ access_register_text ar ∷ [])))
move_text (I.InsertAR rd ri ar) = Some (fixed_text (instruction_text (codes "ear") (reused_text rd ri ∷ access_register_text ar ∷ [])))
move_text (I.LoadIndexedAddr rd base index offset size) = Some (row (indexed_name size) (reg_text rd ∷ indexed_text offset index base ∷ []))
move_text (I.LoadLogicalIndexedAddr rd base index offset size) = Some (row (logical_indexed_name size) (reg_text rd ∷ indexed_text offset index base ∷ []))
move_text _ = None
