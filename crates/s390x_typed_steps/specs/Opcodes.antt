-- The machine rows of each operator on registers and immediates: their opcodes (cranelift-codegen, `emit.rs`). Of those on registers alone, opcodes
-- of two digits are RR, of four with two operands RRE, with three RRF-AB; with an immediate of 16 bits rows are RI-A, or RIE-D with a third operand;
-- of 32 bits RIL-A. Shifts by an amount are RSY, selected bits of a rotated register RIE-F, indexed addresses RXY. Rows of a single instruction have
-- their opcodes in `Alone.antt`: of these, conditional moves are RRF-CDE, or RIE-G with an immediate, and counts of ones RRF-CDE.
use Rattle.std.specs.Prelude.{ℕ, Bool, nat_eq, cond, List, get_or, slice_index, Option, Some, None}
use denote.Enum.Declared.{tag_of}
use Rattle.s390x_inst.specs.declared.ops.ALUOp.{ALUOp}
use Rattle.s390x_inst.specs.declared.ops.CmpOp.{CmpOp}
use Rattle.s390x_inst.specs.declared.ops.ShiftOp.{ShiftOp}
use Rattle.s390x_inst.specs.declared.ops.RxSBGOp.{RxSBGOp}
use Rattle.s390x_inst.specs.declared.ops.UnaryOp.{UnaryOp}
use Rattle.s390x_inst.specs.contracts.ops.ALUOp as the_alu
use Rattle.s390x_inst.specs.contracts.ops.CmpOp as the_cmp
use Rattle.s390x_inst.specs.contracts.ops.RxSBGOp as the_rotate
use Rattle.s390x_inst.specs.contracts.ops.ShiftOp as the_shift
use Rattle.s390x_inst.specs.contracts.ops.UnaryOp as the_unary
use Rattle.s390x_typed_steps.specs.declared.operator_rows.AluRows.{AluRows}
use Rattle.s390x_typed_steps.specs.declared.operator_rows.CmpRows.{CmpRows}
use Rattle.s390x_typed_steps.specs.declared.operator_rows.PartRows.{PartRows}
use Rattle.s390x_typed_steps.specs.declared.operator_rows.PartRows.TheVariants.{Lacking, One, Two, Four}
use Rattle.s390x_typed_steps.specs.declared.operator_rows.RotateRows.{RotateRows}
use Rattle.s390x_typed_steps.specs.declared.operator_rows.TheConstants.{ALU_ROWS, CMP_ROWS, ROTATE_ROWS, SHIFT_ROWS, UNARY_ROWS}
use Rattle.s390x_typed_steps.specs.declared.move_rows.TheConstants.{BYTE_TO_DOUBLEWORD, BYTE_TO_WORD, HALFWORD_TO_DOUBLEWORD, HALFWORD_TO_WORD, INDEXED_ROWS, INSERT_HALVES, INSERT_PARTS, LOAD_HALVES, LOAD_PARTS, LOGICAL_INDEXED_ROWS, WORD_TO_DOUBLEWORD}

-- the rows of an operator, at its place in their table
abbrev pub alu_rows : ALUOp → AluRows
alu_rows op = get_or ALU_ROWS (tag_of the_alu.the_type op) (record { three = None; two = None; halfword = None; three_halfword = None; signed_word = None; unsigned_word = None; rx = None; rxy = None; atomic = None; parts = Lacking; halves = Lacking })

-- the rows of a comparison
abbrev pub cmp_rows : CmpOp → CmpRows
cmp_rows op = get_or CMP_ROWS (tag_of the_cmp.the_type op) (record { two = None; halfword = None; signed_word = None; unsigned_word = None; trap = None; trap_signed = None; trap_unsigned = None; rx = None; rxy = None; ril = 0 })

-- the rows that rotate
abbrev pub rotate_rows : RxSBGOp → RotateRows
rotate_rows op = get_or ROTATE_ROWS (tag_of the_rotate.the_type op) (record { change = 0; test = None })

-- three operands
abbrev pub alu_three : ALUOp → Option ℕ
alu_three op = (alu_rows op).three

-- two operands, the first of which is also the output
abbrev pub alu_two : ALUOp → Option ℕ
alu_two op = (alu_rows op).two

-- a comparison of two registers
abbrev pub cmp_two : CmpOp → Option ℕ
cmp_two op = (cmp_rows op).two

-- an operator on one register, but for the counts of ones
abbrev pub unary_two : UnaryOp → Option ℕ
unary_two op = get_or UNARY_ROWS (tag_of the_unary.the_type op) None

-- a register and an immediate of 16 bits with its sign
abbrev pub alu_halfword : ALUOp → Option ℕ
alu_halfword op = (alu_rows op).halfword

-- a register and an immediate of 16 bits with its sign, into another register
abbrev pub alu_three_halfword : ALUOp → Option ℕ
alu_three_halfword op = (alu_rows op).three_halfword

-- a register and an immediate of 32 bits, with its sign
abbrev pub alu_signed_word : ALUOp → Option ℕ
alu_signed_word op = (alu_rows op).signed_word

-- and without a sign
abbrev pub alu_unsigned_word : ALUOp → Option ℕ
alu_unsigned_word op = (alu_rows op).unsigned_word

-- a comparison of two registers that traps
abbrev pub cmp_trap : CmpOp → Option ℕ
cmp_trap op = (cmp_rows op).trap

-- one with an immediate of 16 bits, with its sign
abbrev pub cmp_trap_signed : CmpOp → Option ℕ
cmp_trap_signed op = (cmp_rows op).trap_signed

-- and without
abbrev pub cmp_trap_unsigned : CmpOp → Option ℕ
cmp_trap_unsigned op = (cmp_rows op).trap_unsigned

-- a comparison with an immediate of 16 bits, with its sign
abbrev pub cmp_halfword : CmpOp → Option ℕ
cmp_halfword op = (cmp_rows op).halfword

-- a comparison with an immediate of 32 bits, with its sign
abbrev pub cmp_signed_word : CmpOp → Option ℕ
cmp_signed_word op = (cmp_rows op).signed_word

-- a comparison with an immediate of 32 bits, without a sign
abbrev pub cmp_unsigned_word : CmpOp → Option ℕ
cmp_unsigned_word op = (cmp_rows op).unsigned_word

-- the only one, whose number is 0
abbrev pub of_one : (zeroth : ℕ) → ℕ → Option ℕ
of_one zeroth n = cond (nat_eq n 0) (Some zeroth) None

-- one of two by its number
abbrev pub of_two : (zeroth first : ℕ) → ℕ → Option ℕ
of_two zeroth first n = cond (nat_eq n 0) (Some zeroth) (cond (nat_eq n 1) (Some first) None)

-- one of four by its number
abbrev pub of_four : (zeroth first second third : ℕ) → ℕ → Option ℕ
of_four zeroth first second third n = cond (nat_eq n 0) (Some zeroth) (cond (nat_eq n 1) (Some first) (cond (nat_eq n 2) (Some second) (cond (nat_eq n 3) (Some third) None)))

-- of a part by its number from the right
abbrev pub opcode_of_part : PartRows → ℕ → Option ℕ
opcode_of_part Lacking n = None
opcode_of_part (One zeroth) n = of_one zeroth n
opcode_of_part (Two zeroth first) n = of_two zeroth first n
opcode_of_part (Four zeroth first second third) n = of_four zeroth first second third n

-- a part of 16 bits; of 32-bit operators the right two alone
abbrev pub alu_part : ALUOp → ℕ → Option ℕ
alu_part op shift = opcode_of_part (alu_rows op).parts shift

-- a half of 32 bits; of 32-bit operators the right one alone
abbrev pub alu_half : ALUOp → ℕ → Option ℕ
alu_half op shift = opcode_of_part (alu_rows op).halves shift

-- a load of a part of 16 bits into a register that is zero elsewhere
abbrev pub load_part : ℕ → Option ℕ
load_part shift = opcode_of_part LOAD_PARTS shift

-- a load of a half of 32 bits into a register that is zero elsewhere
abbrev pub load_half : ℕ → Option ℕ
load_half shift = opcode_of_part LOAD_HALVES shift

-- a part of 16 bits in a register that is left elsewhere
abbrev pub insert_part : ℕ → Option ℕ
insert_part shift = opcode_of_part INSERT_PARTS shift

-- a half of 32 bits in a register that is left elsewhere
abbrev pub insert_half : ℕ → Option ℕ
insert_half shift = opcode_of_part INSERT_HALVES shift

-- a number of so many bits becomes one of 32 bits; one bit counts as a byte with its sign
abbrev pub extend_to_word : Bool → ℕ → Option ℕ
extend_to_word signed from =
    cond (nat_eq from 1) (Some BYTE_TO_WORD.signed)
    (cond (nat_eq from 8) (Some (cond signed BYTE_TO_WORD.signed BYTE_TO_WORD.unsigned)) (cond (nat_eq from 16) (Some (cond signed HALFWORD_TO_WORD.signed HALFWORD_TO_WORD.unsigned)) None))

-- or of 64 bits
abbrev pub extend_to_doubleword : Bool → ℕ → Option ℕ
extend_to_doubleword signed from =
    cond (nat_eq from 1) (Some BYTE_TO_DOUBLEWORD.signed)
    (cond (nat_eq from 8) (Some (cond signed BYTE_TO_DOUBLEWORD.signed BYTE_TO_DOUBLEWORD.unsigned))
    (cond (nat_eq from 16) (Some (cond signed HALFWORD_TO_DOUBLEWORD.signed HALFWORD_TO_DOUBLEWORD.unsigned))
    (cond (nat_eq from 32) (Some (cond signed WORD_TO_DOUBLEWORD.signed WORD_TO_DOUBLEWORD.unsigned)) None)))

-- an extension to 32 or to 64 bits
abbrev pub extend_two : Bool → (from to : ℕ) → Option ℕ
extend_two signed from to = cond (nat_eq to 32) (extend_to_word signed from) (cond (nat_eq to 64) (extend_to_doubleword signed from) None)

-- a shift by an amount
abbrev pub shift_opcode : ShiftOp → ℕ
shift_opcode op = get_or SHIFT_ROWS (tag_of the_shift.the_type op) 0

-- bits that are rotated, and then inserted or combined
abbrev pub rotate_then : RxSBGOp → ℕ
rotate_then op = (rotate_rows op).change

-- or combined to be tested alone
abbrev pub rotate_then_test : RxSBGOp → Option ℕ
rotate_then_test op = (rotate_rows op).test

-- one of four by the size of elements, which is 1 to 4
abbrev pub of_size : (rows : List ℕ) → ℕ → Option ℕ
of_size rows size =
    cond (nat_eq size 1) (Some (slice_index rows 0))
    (cond (nat_eq size 2) (Some (slice_index rows 1)) (cond (nat_eq size 3) (Some (slice_index rows 2)) (cond (nat_eq size 4) (Some (slice_index rows 3)) None)))

-- an indexed address by the size of its elements, the index with its sign
abbrev pub indexed_opcode : ℕ → Option ℕ
indexed_opcode size = of_size INDEXED_ROWS size

-- an indexed address by the size of its elements, the index without a sign
abbrev pub logical_indexed_opcode : ℕ → Option ℕ
logical_indexed_opcode size = of_size LOGICAL_INDEXED_ROWS size
