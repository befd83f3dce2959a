-- The machine rows of the operators that have an operand in memory: their opcodes (cranelift-codegen, `emit.rs`). Opcodes of two digits are RX, of
-- three RIL-B, of four RXY; those of `AtomicRmw` are RSY.
use Rattle.std.specs.Prelude.{ℕ, cond, ◌||◌, nat_eq, Option}
use Rattle.s390x_inst.specs.declared.ops.ALUOp.{ALUOp}
use Rattle.s390x_inst.specs.declared.ops.CmpOp.{CmpOp}
use Rattle.s390x_rows.specs.declared.opcodes.TheConstants as opcodes
use Rattle.s390x_typed_steps.specs.Opcodes.{alu_rows, cmp_rows}

-- a register and an operand in memory, with a displacement of 12 bits
abbrev pub alu_rx : ALUOp → Option ℕ
alu_rx op = (alu_rows op).rx

-- a register and an operand in memory, with a displacement of 20 bits
abbrev pub alu_rxy : ALUOp → Option ℕ
alu_rxy op = (alu_rows op).rxy

-- a comparison with an operand in memory, with a displacement of 12 bits
abbrev pub cmp_rx : CmpOp → Option ℕ
cmp_rx op = (cmp_rows op).rx

-- a comparison with an operand in memory, with a displacement of 20 bits
abbrev pub cmp_rxy : CmpOp → Option ℕ
cmp_rxy op = (cmp_rows op).rxy

-- a comparison with an operand in memory, relative to the instruction
abbrev pub cmp_ril : CmpOp → ℕ
cmp_ril op = (cmp_rows op).ril

-- how many bytes the row of an opcode relative to the instruction accesses: the rows of halfwords and of doublewords; the other ones access words
abbrev pub relative_bytes : (ril_opcode : ℕ) → ℕ
relative_bytes opcode =
    cond
    (
    nat_eq opcode opcodes.LLHRL || nat_eq opcode opcodes.LGHRL || nat_eq opcode opcodes.LHRL || nat_eq opcode opcodes.LLGHRL || nat_eq opcode opcodes.STHRL || nat_eq opcode opcodes.CGHRL || nat_eq opcode opcodes.CHRL
    || nat_eq opcode opcodes.CLGHRL || nat_eq opcode opcodes.CLHRL
    )
    2 (cond (nat_eq opcode opcodes.LGRL || nat_eq opcode opcodes.STGRL || nat_eq opcode opcodes.CGRL || nat_eq opcode opcodes.CLGRL) 8 4)

-- an operand in memory that is changed in one access
abbrev pub atomic_rsy : ALUOp → Option ℕ
atomic_rsy op = (alu_rows op).atomic
