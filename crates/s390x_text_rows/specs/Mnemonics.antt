-- The mnemonics of integer operators, by the form of their operands: those of the rows that emission chooses.
use Rattle.std.specs.Prelude.{ℕ, List, Option, Some, None}
use Rattle.std.specs.Option.{option_map}
use Rattle.s390x_format.specs.Stems.{stem_of}
use Rattle.s390x_rows.specs.declared.opcodes.TheConstants as opcodes
use Rattle.s390x_typed_steps.specs.Opcodes.{alu_three, alu_two, alu_halfword, alu_three_halfword, alu_signed_word, alu_unsigned_word, cmp_two, cmp_halfword, cmp_signed_word, cmp_unsigned_word, cmp_trap, cmp_trap_signed, cmp_trap_unsigned, shift_opcode, rotate_then, rotate_then_test, unary_two}
use Rattle.s390x_typed_steps.specs.Storage.{alu_rx, alu_rxy, atomic_rsy, cmp_rx, cmp_rxy, cmp_ril}
use Rattle.s390x_inst.specs.declared.ops.ALUOp.{ALUOp}
use Rattle.s390x_inst.specs.declared.ops.CmpOp.{CmpOp}
use Rattle.s390x_inst.specs.declared.ops.ShiftOp.{ShiftOp}
use Rattle.s390x_inst.specs.declared.ops.RxSBGOp.{RxSBGOp}
use Rattle.s390x_inst.specs.declared.ops.UnaryOp.{UnaryOp}

-- three operands
unfoldable pub alu_three_name : ALUOp → Option (List ℕ)
alu_three_name op = option_map stem_of (alu_three op)

-- two operands, the first of which is also the output
unfoldable pub alu_two_name : ALUOp → Option (List ℕ)
alu_two_name op = option_map stem_of (alu_two op)

-- a register and an immediate of 16 bits
unfoldable pub alu_halfword_name : ALUOp → Option (List ℕ)
alu_halfword_name op = option_map stem_of (alu_halfword op)

-- a register and an immediate of 16 bits, into another register
unfoldable pub alu_three_halfword_name : ALUOp → Option (List ℕ)
alu_three_halfword_name op = option_map stem_of (alu_three_halfword op)

-- a register and an immediate of 32 bits, with its sign
unfoldable pub alu_signed_word_name : ALUOp → Option (List ℕ)
alu_signed_word_name op = option_map stem_of (alu_signed_word op)

-- and without a sign
unfoldable pub alu_unsigned_word_name : ALUOp → Option (List ℕ)
alu_unsigned_word_name op = option_map stem_of (alu_unsigned_word op)

-- an operand in memory with a displacement of 12 bits
unfoldable pub alu_short_name : ALUOp → Option (List ℕ)
alu_short_name op = option_map stem_of (alu_rx op)

-- an operand in memory with a displacement of 20 bits
unfoldable pub alu_long_name : ALUOp → Option (List ℕ)
alu_long_name op = option_map stem_of (alu_rxy op)

-- an operand in memory that is changed in one access
unfoldable pub atomic_name : ALUOp → Option (List ℕ)
atomic_name op = option_map stem_of (atomic_rsy op)

-- a comparison of two registers
unfoldable pub cmp_two_name : CmpOp → Option (List ℕ)
cmp_two_name op = option_map stem_of (cmp_two op)

-- of a register and an immediate of 16 bits
unfoldable pub cmp_halfword_name : CmpOp → Option (List ℕ)
cmp_halfword_name op = option_map stem_of (cmp_halfword op)

-- of a register and an immediate of 32 bits, with its sign
unfoldable pub cmp_signed_word_name : CmpOp → Option (List ℕ)
cmp_signed_word_name op = option_map stem_of (cmp_signed_word op)

-- and without a sign
unfoldable pub cmp_unsigned_word_name : CmpOp → Option (List ℕ)
cmp_unsigned_word_name op = option_map stem_of (cmp_unsigned_word op)

-- with an operand in memory with a displacement of 12 bits
unfoldable pub cmp_short_name : CmpOp → Option (List ℕ)
cmp_short_name op = option_map stem_of (cmp_rx op)

-- with an operand in memory with a displacement of 20 bits
unfoldable pub cmp_long_name : CmpOp → Option (List ℕ)
cmp_long_name op = option_map stem_of (cmp_rxy op)

-- with an operand in memory relative to the instruction
unfoldable pub cmp_relative_name : CmpOp → List ℕ
cmp_relative_name op = stem_of (cmp_ril op)

-- a comparison of two registers that traps
unfoldable pub cmp_trap_name : CmpOp → Option (List ℕ)
cmp_trap_name op = option_map stem_of (cmp_trap op)

-- one with an immediate of 16 bits, with its sign
unfoldable pub cmp_trap_signed_name : CmpOp → Option (List ℕ)
cmp_trap_signed_name op = option_map stem_of (cmp_trap_signed op)

-- and without a sign
unfoldable pub cmp_trap_unsigned_name : CmpOp → Option (List ℕ)
cmp_trap_unsigned_name op = option_map stem_of (cmp_trap_unsigned op)

-- a shift by an amount
unfoldable pub shift_name : ShiftOp → List ℕ
shift_name op = stem_of (shift_opcode op)

-- bits that are rotated, and then inserted or combined
unfoldable pub rotate_name : RxSBGOp → List ℕ
rotate_name op = stem_of (rotate_then op)

-- or combined to be tested alone
abbrev pub rotate_test_name : RxSBGOp → Option (List ℕ)
rotate_test_name op = option_map stem_of (rotate_then_test op)

-- an opcode, or POPULATION COUNT's where there is none
abbrev pub or_count : Option ℕ → ℕ
or_count None = opcodes.POPCNT
or_count (Some opcode) = opcode

-- an operator on one register
unfoldable pub unary_name : UnaryOp → List ℕ
unary_name op = stem_of (or_count (unary_two op))
