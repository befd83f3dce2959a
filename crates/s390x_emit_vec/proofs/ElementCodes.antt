-- The code of the elements' size of an operator's row has four bits.
use Rattle.std.proofs.Common.{◌≡◌, ◌<◌, true, nat_lt, refl, ltb-true}
use Rattle.s390x_inst.specs.declared.vec_ops.VecBinaryOp.{VecBinaryOp}
use Rattle.s390x_inst.specs.declared.vec_ops.VecBinaryOp.TheVariants as B
use Rattle.s390x_inst.specs.declared.vec_ops.VecUnaryOp.{VecUnaryOp}
use Rattle.s390x_inst.specs.declared.vec_ops.VecUnaryOp.TheVariants as U
use Rattle.s390x_inst.specs.declared.vec_ops.VecShiftOp.{VecShiftOp}
use Rattle.s390x_inst.specs.declared.vec_ops.VecShiftOp.TheVariants as S
use Rattle.s390x_inst.specs.declared.vec_ops.VecIntCmpOp.{VecIntCmpOp}
use Rattle.s390x_inst.specs.declared.vec_ops.VecIntCmpOp.TheVariants as C
use Rattle.s390x_inst.specs.declared.vec_ops.VecIntEltCmpOp.{VecIntEltCmpOp}
use Rattle.s390x_inst.specs.declared.vec_ops.VecIntEltCmpOp.TheVariants as E
use Rattle.s390x_typed_steps.specs.VectorOpcodes.{binary_row, unary_row, shift_row, comparison_row, element_comparison_row}

pub binary_row_code : (op : VecBinaryOp) → (binary_row op).code < 16
binary_row_code op = ltb-true (binary_row op).code 16 (few op)
  where
    few : (op : VecBinaryOp) → nat_lt (binary_row op).code 16 ≡ true
    few B.Add8x16 = refl
    few _ = refl

pub unary_row_code : (op : VecUnaryOp) → (unary_row op).code < 16
unary_row_code op = ltb-true (unary_row op).code 16 (few op)
  where
    few : (op : VecUnaryOp) → nat_lt (unary_row op).code 16 ≡ true
    few U.Abs8x16 = refl
    few _ = refl

pub shift_row_code : (op : VecShiftOp) → (shift_row op).code < 16
shift_row_code op = ltb-true (shift_row op).code 16 (few op)
  where
    few : (op : VecShiftOp) → nat_lt (shift_row op).code 16 ≡ true
    few S.RotL8x16 = refl
    few _ = refl

pub comparison_row_code : (op : VecIntCmpOp) → (comparison_row op).code < 16
comparison_row_code op = ltb-true (comparison_row op).code 16 (few op)
  where
    few : (op : VecIntCmpOp) → nat_lt (comparison_row op).code 16 ≡ true
    few C.CmpEq8x16 = refl
    few _ = refl

pub element_comparison_row_code : (op : VecIntEltCmpOp) → (element_comparison_row op).code < 16
element_comparison_row_code op = ltb-true (element_comparison_row op).code 16 (few op)
  where
    few : (op : VecIntEltCmpOp) → nat_lt (element_comparison_row op).code 16 ≡ true
    few E.SCmp128 = refl
    few _ = refl
