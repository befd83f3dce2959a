-- Operators, conventions and types, by the names in their tables.
use Rattle.std.specs.Prelude.{ℕ, List}
use denote.Enum.Declared.{tag_of}
use Rattle.s390x_job_fields.specs.Found.{rows, found_by_name, name_at}
use Rattle.s390x_job_fields.specs.declared.operators.TheConstants.{ALU_NAMES, CMP_NAMES, SHIFT_NAMES, RXSBG_NAMES, UNARY_NAMES, CONVENTION_NAMES, TYPE_NAMES}
use Rattle.s390x_job_fields.specs.declared.vector_operators.TheConstants.{VEC_BINARY_NAMES, VEC_UNARY_NAMES, VEC_SHIFT_NAMES, VEC_COMPARE_NAMES, VEC_ELEMENT_COMPARE_NAMES}
use Rattle.s390x_inst.specs.declared.ops.ALUOp.{ALUOp}
use Rattle.s390x_inst.specs.declared.ops.ALUOp.TheVariants as ALUOpIs
use Rattle.s390x_inst.specs.contracts.ops.ALUOp as the_alu
use Rattle.s390x_inst.specs.declared.ops.CmpOp.{CmpOp}
use Rattle.s390x_inst.specs.declared.ops.CmpOp.TheVariants as CmpOpIs
use Rattle.s390x_inst.specs.contracts.ops.CmpOp as the_cmp
use Rattle.s390x_inst.specs.declared.ops.ShiftOp.{ShiftOp}
use Rattle.s390x_inst.specs.declared.ops.ShiftOp.TheVariants as ShiftOpIs
use Rattle.s390x_inst.specs.contracts.ops.ShiftOp as the_shift
use Rattle.s390x_inst.specs.declared.ops.RxSBGOp.{RxSBGOp}
use Rattle.s390x_inst.specs.declared.ops.RxSBGOp.TheVariants as RxSBGOpIs
use Rattle.s390x_inst.specs.contracts.ops.RxSBGOp as the_rxsbg
use Rattle.s390x_inst.specs.declared.ops.UnaryOp.{UnaryOp}
use Rattle.s390x_inst.specs.declared.ops.UnaryOp.TheVariants as UnaryOpIs
use Rattle.s390x_inst.specs.contracts.ops.UnaryOp as the_unary
use Rattle.s390x_inst.specs.declared.vec_ops.VecBinaryOp.{VecBinaryOp}
use Rattle.s390x_inst.specs.declared.vec_ops.VecBinaryOp.TheVariants as VecBinaryOpIs
use Rattle.s390x_inst.specs.contracts.vec_ops.VecBinaryOp as the_vec_binary
use Rattle.s390x_inst.specs.declared.vec_ops.VecUnaryOp.{VecUnaryOp}
use Rattle.s390x_inst.specs.declared.vec_ops.VecUnaryOp.TheVariants as VecUnaryOpIs
use Rattle.s390x_inst.specs.contracts.vec_ops.VecUnaryOp as the_vec_unary
use Rattle.s390x_inst.specs.declared.vec_ops.VecShiftOp.{VecShiftOp}
use Rattle.s390x_inst.specs.declared.vec_ops.VecShiftOp.TheVariants as VecShiftOpIs
use Rattle.s390x_inst.specs.contracts.vec_ops.VecShiftOp as the_vec_shift
use Rattle.s390x_inst.specs.declared.vec_ops.VecIntCmpOp.{VecIntCmpOp}
use Rattle.s390x_inst.specs.declared.vec_ops.VecIntCmpOp.TheVariants as VecIntCmpOpIs
use Rattle.s390x_inst.specs.contracts.vec_ops.VecIntCmpOp as the_vec_compare
use Rattle.s390x_inst.specs.declared.vec_ops.VecIntEltCmpOp.{VecIntEltCmpOp}
use Rattle.s390x_inst.specs.declared.vec_ops.VecIntEltCmpOp.TheVariants as VecIntEltCmpOpIs
use Rattle.s390x_inst.specs.contracts.vec_ops.VecIntEltCmpOp as the_vec_element_compare
use Rattle.s390x_inst.specs.declared.calls.CallConv.{CallConv}
use Rattle.s390x_inst.specs.declared.calls.CallConv.TheVariants as CallConvIs
use Rattle.s390x_inst.specs.contracts.calls.CallConv as the_convention
use Rattle.s390x_base.specs.declared.ir.ValueType.{ValueType}
use Rattle.s390x_base.specs.declared.ir.ValueType.TheVariants as ValueTypeIs
use Rattle.s390x_base.specs.contracts.ir.ValueType as the_type

-- of operators on two operands
unfoldable pub alu_text : ALUOp → List ℕ
alu_text o = name_at (rows ALU_NAMES.now) (tag_of the_alu.the_type o)

unfoldable pub alu_of : List ℕ → ALUOp
alu_of w = found_by_name (rows ALU_NAMES.now) w ALUOpIs.Add32

-- of comparisons
unfoldable pub cmp_text : CmpOp → List ℕ
cmp_text o = name_at (rows CMP_NAMES.now) (tag_of the_cmp.the_type o)

unfoldable pub cmp_of : List ℕ → CmpOp
cmp_of w = found_by_name (rows CMP_NAMES.now) w CmpOpIs.CmpS32

-- of shifts and rotations
unfoldable pub shift_text : ShiftOp → List ℕ
shift_text o = name_at (rows SHIFT_NAMES.now) (tag_of the_shift.the_type o)

unfoldable pub shift_of : List ℕ → ShiftOp
shift_of w = found_by_name (rows SHIFT_NAMES.now) w ShiftOpIs.RotL32

-- of what becomes of selected bits
unfoldable pub rxsbg_text : RxSBGOp → List ℕ
rxsbg_text o = name_at (rows RXSBG_NAMES.now) (tag_of the_rxsbg.the_type o)

unfoldable pub rxsbg_of : List ℕ → RxSBGOp
rxsbg_of w = found_by_name (rows RXSBG_NAMES.now) w RxSBGOpIs.Insert

-- of operators on one operand
unfoldable pub unary_text : UnaryOp → List ℕ
unary_text o = name_at (rows UNARY_NAMES.now) (tag_of the_unary.the_type o)

unfoldable pub unary_of : List ℕ → UnaryOp
unary_of w = found_by_name (rows UNARY_NAMES.now) w UnaryOpIs.Abs32

-- of operators on two vectors
unfoldable pub vec_binary_text : VecBinaryOp → List ℕ
vec_binary_text o = name_at (rows VEC_BINARY_NAMES.now) (tag_of the_vec_binary.the_type o)

unfoldable pub vec_binary_of : List ℕ → VecBinaryOp
vec_binary_of w = found_by_name (rows VEC_BINARY_NAMES.now) w VecBinaryOpIs.Add8x16

-- of operators on one vector
unfoldable pub vec_unary_text : VecUnaryOp → List ℕ
vec_unary_text o = name_at (rows VEC_UNARY_NAMES.now) (tag_of the_vec_unary.the_type o)

unfoldable pub vec_unary_of : List ℕ → VecUnaryOp
vec_unary_of w = found_by_name (rows VEC_UNARY_NAMES.now) w VecUnaryOpIs.Abs8x16

-- of shifts and rotations of lanes
unfoldable pub vec_shift_text : VecShiftOp → List ℕ
vec_shift_text o = name_at (rows VEC_SHIFT_NAMES.now) (tag_of the_vec_shift.the_type o)

unfoldable pub vec_shift_of : List ℕ → VecShiftOp
vec_shift_of w = found_by_name (rows VEC_SHIFT_NAMES.now) w VecShiftOpIs.RotL8x16

-- of comparisons of lanes
unfoldable pub vec_compare_text : VecIntCmpOp → List ℕ
vec_compare_text o = name_at (rows VEC_COMPARE_NAMES.now) (tag_of the_vec_compare.the_type o)

unfoldable pub vec_compare_of : List ℕ → VecIntCmpOp
vec_compare_of w = found_by_name (rows VEC_COMPARE_NAMES.now) w VecIntCmpOpIs.CmpEq8x16

-- of comparisons of one element
unfoldable pub vec_element_compare_text : VecIntEltCmpOp → List ℕ
vec_element_compare_text o = name_at (rows VEC_ELEMENT_COMPARE_NAMES.now) (tag_of the_vec_element_compare.the_type o)

unfoldable pub vec_element_compare_of : List ℕ → VecIntEltCmpOp
vec_element_compare_of w = found_by_name (rows VEC_ELEMENT_COMPARE_NAMES.now) w VecIntEltCmpOpIs.SCmp128

-- of calling conventions
unfoldable pub convention_text : CallConv → List ℕ
convention_text o = name_at (rows CONVENTION_NAMES.now) (tag_of the_convention.the_type o)

unfoldable pub convention_of : List ℕ → CallConv
convention_of w = found_by_name (rows CONVENTION_NAMES.now) w CallConvIs.Fast

-- of types
unfoldable pub type_text : ValueType → List ℕ
type_text o = name_at (rows TYPE_NAMES.now) (tag_of the_type.the_type o)

unfoldable pub value_type_of : List ℕ → ValueType
value_type_of w = found_by_name (rows TYPE_NAMES.now) w ValueTypeIs.I8
