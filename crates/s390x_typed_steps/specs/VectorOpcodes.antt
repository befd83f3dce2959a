-- The machine row of each operator on vectors: its opcode and the code of its elements' size (cranelift-codegen, `emit.rs`). Rows of three vector
-- registers are VRR-C, of two VRR-A; shifts by an amount are VRS-A, comparisons VRR-B, those of one element VRR-A.
use Rattle.std.specs.Prelude.{Bool, true, false, get_or}
use denote.Enum.Declared.{tag_of}
use Rattle.s390x_inst.specs.declared.vec_ops.VecBinaryOp.{VecBinaryOp}
use Rattle.s390x_inst.specs.declared.vec_ops.VecBinaryOp.TheVariants.{UDiv32x4, UDiv64x2, UDiv128, SDiv32x4, SDiv64x2, SDiv128, URem32x4, URem64x2, URem128, SRem32x4, SRem64x2, SRem128}
use Rattle.s390x_inst.specs.declared.vec_ops.VecUnaryOp.{VecUnaryOp}
use Rattle.s390x_inst.specs.declared.vec_ops.VecShiftOp.{VecShiftOp}
use Rattle.s390x_inst.specs.declared.vec_ops.VecIntCmpOp.{VecIntCmpOp}
use Rattle.s390x_inst.specs.declared.vec_ops.VecIntEltCmpOp.{VecIntEltCmpOp}
use Rattle.s390x_inst.specs.contracts.vec_ops.VecBinaryOp as the_binary
use Rattle.s390x_inst.specs.contracts.vec_ops.VecUnaryOp as the_unary
use Rattle.s390x_inst.specs.contracts.vec_ops.VecShiftOp as the_shift
use Rattle.s390x_inst.specs.contracts.vec_ops.VecIntCmpOp as the_comparison
use Rattle.s390x_inst.specs.contracts.vec_ops.VecIntEltCmpOp as the_element_comparison
use Rattle.s390x_typed_steps.specs.declared.vector_rows.TheConstants.{VEC_BINARY_ROWS, VEC_UNARY_ROWS, VEC_SHIFT_ROWS, VEC_COMPARISON_ROWS, VEC_ELEMENT_COMPARISON_ROWS}
use Rattle.s390x_typed_steps.specs.declared.vector_opcode.VectorOpcode.{VectorOpcode}

-- stands for the row of an operator that has none
abbrev pub no_row : VectorOpcode
no_row = record { opcode = 0; code = 0 }

-- an operator on two vectors
abbrev pub binary_row : VecBinaryOp → VectorOpcode
binary_row op = get_or VEC_BINARY_ROWS (tag_of the_binary.the_type op) no_row

-- an operator on one vector
abbrev pub unary_row : VecUnaryOp → VectorOpcode
unary_row op = get_or VEC_UNARY_ROWS (tag_of the_unary.the_type op) no_row

-- a shift or rotation of each element
abbrev pub shift_row : VecShiftOp → VectorOpcode
shift_row op = get_or VEC_SHIFT_ROWS (tag_of the_shift.the_type op) no_row

-- a comparison of each element
abbrev pub comparison_row : VecIntCmpOp → VectorOpcode
comparison_row op = get_or VEC_COMPARISON_ROWS (tag_of the_comparison.the_type op) no_row

-- a comparison of one element
abbrev pub element_comparison_row : VecIntEltCmpOp → VectorOpcode
element_comparison_row op = get_or VEC_ELEMENT_COMPARISON_ROWS (tag_of the_element_comparison.the_type op) no_row

-- a division, which stops by a divisor 0 and may stop by a quotient that doesn't fit
abbrev pub is_division : VecBinaryOp → Bool
is_division UDiv32x4 = true
is_division UDiv64x2 = true
is_division UDiv128 = true
is_division SDiv32x4 = true
is_division SDiv64x2 = true
is_division SDiv128 = true
is_division URem32x4 = true
is_division URem64x2 = true
is_division URem128 = true
is_division SRem32x4 = true
is_division SRem64x2 = true
is_division SRem128 = true
is_division _ = false
