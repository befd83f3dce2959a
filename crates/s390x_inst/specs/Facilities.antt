-- The facility that an instruction needs (cranelift-codegen, `mod.rs`). What isn't named is part of the base.
use Rattle.std.specs.Prelude.{Bool, true, Option, Some, None}
use Rattle.s390x_inst.specs.declared.facility.InstructionSet.{InstructionSet}
use Rattle.s390x_inst.specs.declared.facility.InstructionSet.TheVariants.{Base, MIE3, MIE4, VXRS_EXT2, VXRS_EXT3}
use Rattle.s390x_inst.specs.declared.state.IsaFlags.{IsaFlags}
use Rattle.s390x_inst.specs.declared.ops.ALUOp.{ALUOp}
use Rattle.s390x_inst.specs.declared.ops.ALUOp.TheVariants.{NotAnd32, NotAnd64, NotOrr32, NotOrr64, NotXor32, NotXor64, AndNot32, AndNot64, OrrNot32, OrrNot64}
use Rattle.s390x_inst.specs.declared.ops.UnaryOp.{UnaryOp}
use Rattle.s390x_inst.specs.declared.ops.UnaryOp.TheVariants.{PopcntReg, Clz64, Ctz64}
use Rattle.s390x_inst.specs.declared.vec_ops.VecBinaryOp.{VecBinaryOp}
use Rattle.s390x_inst.specs.declared.vec_ops.VecBinaryOp.TheVariants.{Mul64x2, Mul128, UMulHi64x2, UMulHi128, SMulHi64x2, SMulHi128, UMulEven64x2, SMulEven64x2, UMulOdd64x2, SMulOdd64x2, UDiv32x4, UDiv64x2, UDiv128, SDiv32x4, SDiv64x2, SDiv128, URem32x4, URem64x2, URem128, SRem32x4, SRem64x2, SRem128, UMax128, SMax128, UMin128, SMin128, UAvg128, SAvg128}
use Rattle.s390x_inst.specs.declared.vec_ops.VecUnaryOp.{VecUnaryOp}
use Rattle.s390x_inst.specs.declared.vec_ops.VecUnaryOp.TheVariants.{Abs128, Neg128, Clz128, Ctz128, UnpackULow64x2, UnpackUHigh64x2, UnpackSLow64x2, UnpackSHigh64x2}
use Rattle.s390x_inst.specs.declared.vec_ops.VecIntCmpOp.{VecIntCmpOp}
use Rattle.s390x_inst.specs.declared.vec_ops.VecIntCmpOp.TheVariants.{CmpEq128, SCmpHi128, UCmpHi128}
use Rattle.s390x_inst.specs.declared.inst.Inst.{Inst}
use Rattle.s390x_inst.specs.declared.inst.Inst.TheVariants.{AluRRR, UnaryRR, LoadIndexedAddr, LoadLogicalIndexedAddr, Vector}
use Rattle.s390x_inst.specs.declared.vec_inst.VecInst.{VecInst}
use Rattle.s390x_inst.specs.declared.vec_inst.VecInst.TheVariants.{VecRRR, VecRR, VecIntCmp, VecIntCmpS, VecIntEltCmp, VecBlend, VecEvaluate, VecLoadReplicateRev, VecLoadLaneRev, VecLoadLaneRevUndef, VecStoreLaneRev}
use Rattle.s390x_inst.specs.declared.whole.WholeAccess.{WholeAccess}
use Rattle.s390x_inst.specs.declared.whole.WholeLayout.{WholeLayout}
use Rattle.s390x_inst.specs.declared.whole.WholeLayout.TheVariants.{Straight}
use Rattle.s390x_inst.specs.Wholes.{as_whole}

-- of the form of three registers
abbrev pub alu_facility : ALUOp → InstructionSet
alu_facility NotAnd32 = MIE3
alu_facility NotAnd64 = MIE3
alu_facility NotOrr32 = MIE3
alu_facility NotOrr64 = MIE3
alu_facility NotXor32 = MIE3
alu_facility NotXor64 = MIE3
alu_facility AndNot32 = MIE3
alu_facility AndNot64 = MIE3
alu_facility OrrNot32 = MIE3
alu_facility OrrNot64 = MIE3
alu_facility _ = Base

-- of an operator on one register
abbrev pub unary_facility : UnaryOp → InstructionSet
unary_facility PopcntReg = MIE3
unary_facility Clz64 = MIE4
unary_facility Ctz64 = MIE4
unary_facility _ = Base

-- wide products, all divisions, and the extremes and averages of 128 bits
abbrev pub vec_binary_facility : VecBinaryOp → InstructionSet
vec_binary_facility Mul64x2 = VXRS_EXT3
vec_binary_facility Mul128 = VXRS_EXT3
vec_binary_facility UMulHi64x2 = VXRS_EXT3
vec_binary_facility UMulHi128 = VXRS_EXT3
vec_binary_facility SMulHi64x2 = VXRS_EXT3
vec_binary_facility SMulHi128 = VXRS_EXT3
vec_binary_facility UMulEven64x2 = VXRS_EXT3
vec_binary_facility SMulEven64x2 = VXRS_EXT3
vec_binary_facility UMulOdd64x2 = VXRS_EXT3
vec_binary_facility SMulOdd64x2 = VXRS_EXT3
vec_binary_facility UDiv32x4 = VXRS_EXT3
vec_binary_facility UDiv64x2 = VXRS_EXT3
vec_binary_facility UDiv128 = VXRS_EXT3
vec_binary_facility SDiv32x4 = VXRS_EXT3
vec_binary_facility SDiv64x2 = VXRS_EXT3
vec_binary_facility SDiv128 = VXRS_EXT3
vec_binary_facility URem32x4 = VXRS_EXT3
vec_binary_facility URem64x2 = VXRS_EXT3
vec_binary_facility URem128 = VXRS_EXT3
vec_binary_facility SRem32x4 = VXRS_EXT3
vec_binary_facility SRem64x2 = VXRS_EXT3
vec_binary_facility SRem128 = VXRS_EXT3
vec_binary_facility UMax128 = VXRS_EXT3
vec_binary_facility SMax128 = VXRS_EXT3
vec_binary_facility UMin128 = VXRS_EXT3
vec_binary_facility SMin128 = VXRS_EXT3
vec_binary_facility UAvg128 = VXRS_EXT3
vec_binary_facility SAvg128 = VXRS_EXT3
vec_binary_facility _ = Base

-- vector operators on one register: those on 128 bits, and those that unpack to 128 bits
abbrev pub vec_unary_facility : VecUnaryOp → InstructionSet
vec_unary_facility Abs128 = VXRS_EXT3
vec_unary_facility Neg128 = VXRS_EXT3
vec_unary_facility Clz128 = VXRS_EXT3
vec_unary_facility Ctz128 = VXRS_EXT3
vec_unary_facility UnpackULow64x2 = VXRS_EXT3
vec_unary_facility UnpackUHigh64x2 = VXRS_EXT3
vec_unary_facility UnpackSLow64x2 = VXRS_EXT3
vec_unary_facility UnpackSHigh64x2 = VXRS_EXT3
vec_unary_facility _ = Base

-- comparisons of vectors: those of 128 bits
abbrev pub vec_compare_facility : VecIntCmpOp → InstructionSet
vec_compare_facility CmpEq128 = VXRS_EXT3
vec_compare_facility SCmpHi128 = VXRS_EXT3
vec_compare_facility UCmpHi128 = VXRS_EXT3
vec_compare_facility _ = Base

-- of how a whole vector register lies in memory
abbrev pub layout_facility : WholeLayout → InstructionSet
layout_facility Straight = Base
layout_facility _ = VXRS_EXT2

-- of a load or a store of a whole vector register: one that reverses
abbrev pub whole_facility : Option WholeAccess → InstructionSet
whole_facility None = Base
whole_facility (Some w) = layout_facility w.layout

-- of a vector instruction: its operator's; comparing elements, blending and evaluating need one too, and so do reversed accesses to memory
abbrev pub vec_facility : VecInst → InstructionSet
vec_facility (VecRRR op rd rn rm) = vec_binary_facility op
vec_facility (VecRR op rd rn) = vec_unary_facility op
vec_facility (VecIntCmp op rd rn rm) = vec_compare_facility op
vec_facility (VecIntCmpS op rd rn rm) = vec_compare_facility op
vec_facility (VecIntEltCmp op rn rm) = VXRS_EXT3
vec_facility (VecBlend rd rn rm ra) = VXRS_EXT3
vec_facility (VecEvaluate imm rd rn rm ra) = VXRS_EXT3
vec_facility (VecLoadReplicateRev size rd mem) = VXRS_EXT2
vec_facility (VecLoadLaneRev size rd ri mem lane) = VXRS_EXT2
vec_facility (VecLoadLaneRevUndef size rd mem lane) = VXRS_EXT2
vec_facility (VecStoreLaneRev size rd mem lane) = VXRS_EXT2
vec_facility v = whole_facility (as_whole v)

-- the facility that an instruction needs
abbrev pub facility_of : Inst → InstructionSet
facility_of (AluRRR op rd rn rm) = alu_facility op
facility_of (UnaryRR op rd rn) = unary_facility op
facility_of (LoadIndexedAddr rd base index offset size) = MIE4
facility_of (LoadLogicalIndexedAddr rd base index offset size) = MIE4
facility_of (Vector v) = vec_facility v
facility_of _ = Base

-- whether the flags have a facility; the base always, which the crate's least machine has
abbrev pub has_facility : IsaFlags → InstructionSet → Bool
has_facility f Base = true
has_facility f MIE3 = f.has_mie3
has_facility f MIE4 = f.has_mie4
has_facility f VXRS_EXT2 = f.has_vxrs_ext2
has_facility f VXRS_EXT3 = f.has_vxrs_ext3
