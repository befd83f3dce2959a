-- Moves, loads and stores by class and type.
use Rattle.std.specs.Prelude.{Option, Some, None}
use Rattle.s390x_base.specs.Regs.{class_of}
use Rattle.s390x_base.specs.declared.ir.ValueType.{ValueType}
use Rattle.s390x_base.specs.declared.ir.ValueType.TheVariants.{I8, I16, I32, I64, I128, F16, F32, F64, F128, I8X8, I8X16, I16X8, I32X4, I64X2, F32X4, F64X2}
use Rattle.s390x_base.specs.declared.regs.Reg.{Reg}
use Rattle.s390x_base.specs.declared.regs.RegClass.{RegClass}
use Rattle.s390x_base.specs.declared.regs.RegClass.TheVariants.{Int, Float}
use Rattle.s390x_inst.specs.declared.args.MemArg.{MemArg}
use Rattle.s390x_inst.specs.declared.inst.Inst.{Inst}
use Rattle.s390x_inst.specs.declared.inst.Inst.TheVariants.{Mov32, Mov64, Load64, Load64ZExt8, Load64ZExt16, Load64ZExt32, Store8, Store16, Store32, Store64, Vector}
use Rattle.s390x_inst.specs.declared.vec_inst.VecInst.TheVariants.{FpuMove32, FpuMove64, VecLoad, VecLoadLaneUndef, VecStore, VecStoreLane}

-- one instruction for the class Int, another for Float
abbrev pub by_class : RegClass → (int float : Inst) → Inst
by_class Int i f = i
by_class Float i f = f

-- the move of 32 bits in the class of its source
abbrev pub move32_of : (rd rn : Reg) → Inst
move32_of rd rn = by_class (class_of rn) (Mov32 rd rn) (Vector (FpuMove32 rd rn))

-- the move of 64 bits in the class of its source
abbrev pub move64_of : (rd rn : Reg) → Inst
move64_of rd rn = by_class (class_of rn) (Mov64 rd rn) (Vector (FpuMove64 rd rn))

-- integers are zero-extended; floats are lane 0, whose fellows may change
abbrev pub load_of : Reg → MemArg → ValueType → Option Inst
load_of rd mem I8 = Some (Load64ZExt8 rd mem)
load_of rd mem I16 = Some (Load64ZExt16 rd mem)
load_of rd mem I32 = Some (Load64ZExt32 rd mem)
load_of rd mem I64 = Some (Load64 rd mem)
load_of rd mem I128 = Some (Vector (VecLoad rd mem))
load_of rd mem F16 = Some (Vector (VecLoadLaneUndef 16 rd mem 0))
load_of rd mem F32 = Some (Vector (VecLoadLaneUndef 32 rd mem 0))
load_of rd mem F64 = Some (Vector (VecLoadLaneUndef 64 rd mem 0))
load_of rd mem F128 = Some (Vector (VecLoad rd mem))
load_of rd mem I8X8 = None
load_of rd mem I8X16 = Some (Vector (VecLoad rd mem))
load_of rd mem I16X8 = Some (Vector (VecLoad rd mem))
load_of rd mem I32X4 = Some (Vector (VecLoad rd mem))
load_of rd mem I64X2 = Some (Vector (VecLoad rd mem))
load_of rd mem F32X4 = Some (Vector (VecLoad rd mem))
load_of rd mem F64X2 = Some (Vector (VecLoad rd mem))

-- the store of a type, floats from lane 0; none for `I8X8`
abbrev pub store_of : MemArg → Reg → ValueType → Option Inst
store_of mem rd I8 = Some (Store8 rd mem)
store_of mem rd I16 = Some (Store16 rd mem)
store_of mem rd I32 = Some (Store32 rd mem)
store_of mem rd I64 = Some (Store64 rd mem)
store_of mem rd I128 = Some (Vector (VecStore rd mem))
store_of mem rd F16 = Some (Vector (VecStoreLane 16 rd mem 0))
store_of mem rd F32 = Some (Vector (VecStoreLane 32 rd mem 0))
store_of mem rd F64 = Some (Vector (VecStoreLane 64 rd mem 0))
store_of mem rd F128 = Some (Vector (VecStore rd mem))
store_of mem rd I8X8 = None
store_of mem rd I8X16 = Some (Vector (VecStore rd mem))
store_of mem rd I16X8 = Some (Vector (VecStore rd mem))
store_of mem rd I32X4 = Some (Vector (VecStore rd mem))
store_of mem rd I64X2 = Some (Vector (VecStore rd mem))
store_of mem rd F32X4 = Some (Vector (VecStore rd mem))
store_of mem rd F64X2 = Some (Vector (VecStore rd mem))
