-- Operators and conventions: a name is a word, and is found again.
use Rattle.std.proofs.Common.{◌≡◌, refl}
use Rattle.s390x_job_fields.specs.Operators.{alu_text, alu_of, cmp_text, cmp_of, shift_text, shift_of, rxsbg_text, rxsbg_of, unary_text, unary_of, vec_binary_text, vec_binary_of, vec_unary_text, vec_unary_of, vec_shift_text, vec_shift_of, vec_compare_text, vec_compare_of, vec_element_compare_text, vec_element_compare_of, convention_text, convention_of}
use Rattle.s390x_job_fields.proofs.Avoids.{Avoids-test, marks, IsOneWord}
use Rattle.s390x_inst.specs.declared.ops.ALUOp.{ALUOp}
use Rattle.s390x_inst.specs.declared.ops.ALUOp.TheVariants as ALUOpIs
use Rattle.s390x_inst.specs.declared.ops.CmpOp.{CmpOp}
use Rattle.s390x_inst.specs.declared.ops.CmpOp.TheVariants as CmpOpIs
use Rattle.s390x_inst.specs.declared.ops.ShiftOp.{ShiftOp}
use Rattle.s390x_inst.specs.declared.ops.ShiftOp.TheVariants as ShiftOpIs
use Rattle.s390x_inst.specs.declared.ops.RxSBGOp.{RxSBGOp}
use Rattle.s390x_inst.specs.declared.ops.RxSBGOp.TheVariants as RxSBGOpIs
use Rattle.s390x_inst.specs.declared.ops.UnaryOp.{UnaryOp}
use Rattle.s390x_inst.specs.declared.ops.UnaryOp.TheVariants as UnaryOpIs
use Rattle.s390x_inst.specs.declared.vec_ops.VecBinaryOp.{VecBinaryOp}
use Rattle.s390x_inst.specs.declared.vec_ops.VecBinaryOp.TheVariants as VecBinaryOpIs
use Rattle.s390x_inst.specs.declared.vec_ops.VecUnaryOp.{VecUnaryOp}
use Rattle.s390x_inst.specs.declared.vec_ops.VecUnaryOp.TheVariants as VecUnaryOpIs
use Rattle.s390x_inst.specs.declared.vec_ops.VecShiftOp.{VecShiftOp}
use Rattle.s390x_inst.specs.declared.vec_ops.VecShiftOp.TheVariants as VecShiftOpIs
use Rattle.s390x_inst.specs.declared.vec_ops.VecIntCmpOp.{VecIntCmpOp}
use Rattle.s390x_inst.specs.declared.vec_ops.VecIntCmpOp.TheVariants as VecIntCmpOpIs
use Rattle.s390x_inst.specs.declared.vec_ops.VecIntEltCmpOp.{VecIntEltCmpOp}
use Rattle.s390x_inst.specs.declared.vec_ops.VecIntEltCmpOp.TheVariants as VecIntEltCmpOpIs
use Rattle.s390x_inst.specs.declared.calls.CallConv.{CallConv}
use Rattle.s390x_inst.specs.declared.calls.CallConv.TheVariants as CallConvIs

pub alu-name : (o : ALUOp) → IsOneWord (alu_text o) × (alu_of (alu_text o) ≡ o)
unfolding alu_of alu_text
alu-name ALUOpIs.Add32 = (Avoids-test marks (alu_text ALUOpIs.Add32) refl, refl)
alu-name o = (Avoids-test marks (alu_text o) refl, refl)

pub cmp-name : (o : CmpOp) → IsOneWord (cmp_text o) × (cmp_of (cmp_text o) ≡ o)
unfolding cmp_of cmp_text
cmp-name CmpOpIs.CmpS32 = (Avoids-test marks (cmp_text CmpOpIs.CmpS32) refl, refl)
cmp-name o = (Avoids-test marks (cmp_text o) refl, refl)

pub shift-name : (o : ShiftOp) → IsOneWord (shift_text o) × (shift_of (shift_text o) ≡ o)
unfolding shift_of shift_text
shift-name ShiftOpIs.RotL32 = (Avoids-test marks (shift_text ShiftOpIs.RotL32) refl, refl)
shift-name o = (Avoids-test marks (shift_text o) refl, refl)

pub rxsbg-name : (o : RxSBGOp) → IsOneWord (rxsbg_text o) × (rxsbg_of (rxsbg_text o) ≡ o)
unfolding rxsbg_of rxsbg_text
rxsbg-name RxSBGOpIs.Insert = (Avoids-test marks (rxsbg_text RxSBGOpIs.Insert) refl, refl)
rxsbg-name o = (Avoids-test marks (rxsbg_text o) refl, refl)

pub unary-name : (o : UnaryOp) → IsOneWord (unary_text o) × (unary_of (unary_text o) ≡ o)
unfolding unary_of unary_text
unary-name UnaryOpIs.Abs32 = (Avoids-test marks (unary_text UnaryOpIs.Abs32) refl, refl)
unary-name o = (Avoids-test marks (unary_text o) refl, refl)

pub vec_binary-name : (o : VecBinaryOp) → IsOneWord (vec_binary_text o) × (vec_binary_of (vec_binary_text o) ≡ o)
unfolding vec_binary_of vec_binary_text
vec_binary-name VecBinaryOpIs.Add8x16 = (Avoids-test marks (vec_binary_text VecBinaryOpIs.Add8x16) refl, refl)
vec_binary-name o = (Avoids-test marks (vec_binary_text o) refl, refl)

pub vec_unary-name : (o : VecUnaryOp) → IsOneWord (vec_unary_text o) × (vec_unary_of (vec_unary_text o) ≡ o)
unfolding vec_unary_of vec_unary_text
vec_unary-name VecUnaryOpIs.Abs8x16 = (Avoids-test marks (vec_unary_text VecUnaryOpIs.Abs8x16) refl, refl)
vec_unary-name o = (Avoids-test marks (vec_unary_text o) refl, refl)

pub vec_shift-name : (o : VecShiftOp) → IsOneWord (vec_shift_text o) × (vec_shift_of (vec_shift_text o) ≡ o)
unfolding vec_shift_of vec_shift_text
vec_shift-name VecShiftOpIs.RotL8x16 = (Avoids-test marks (vec_shift_text VecShiftOpIs.RotL8x16) refl, refl)
vec_shift-name o = (Avoids-test marks (vec_shift_text o) refl, refl)

pub vec_compare-name : (o : VecIntCmpOp) → IsOneWord (vec_compare_text o) × (vec_compare_of (vec_compare_text o) ≡ o)
unfolding vec_compare_of vec_compare_text
vec_compare-name VecIntCmpOpIs.CmpEq8x16 = (Avoids-test marks (vec_compare_text VecIntCmpOpIs.CmpEq8x16) refl, refl)
vec_compare-name o = (Avoids-test marks (vec_compare_text o) refl, refl)

pub vec_element_compare-name : (o : VecIntEltCmpOp) → IsOneWord (vec_element_compare_text o) × (vec_element_compare_of (vec_element_compare_text o) ≡ o)
unfolding vec_element_compare_of vec_element_compare_text
vec_element_compare-name VecIntEltCmpOpIs.SCmp128 = (Avoids-test marks (vec_element_compare_text VecIntEltCmpOpIs.SCmp128) refl, refl)
vec_element_compare-name o = (Avoids-test marks (vec_element_compare_text o) refl, refl)

pub convention-name : (o : CallConv) → IsOneWord (convention_text o) × (convention_of (convention_text o) ≡ o)
unfolding convention_of convention_text
convention-name CallConvIs.Fast = (Avoids-test marks (convention_text CallConvIs.Fast) refl, refl)
convention-name o = (Avoids-test marks (convention_text o) refl, refl)
