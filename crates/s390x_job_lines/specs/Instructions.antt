-- The lines of instructions: the variant's name, and its fields in the order of their declaration.
use Rattle.std.specs.Prelude.{[], ◌∷◌, Option}
use Rattle.s390x_base.specs.declared.regs.Reg.{Reg}
use Rattle.s390x_base.specs.Sets.{has}
use Rattle.s390x_job_fields.specs.Numbers.{W8, W16, W32, W64, S8, S16, S20, S32}
use Rattle.s390x_job_fields.specs.Calls.{try_part}
use Rattle.s390x_job_fields.specs.Sets.{members_of}
use Rattle.s390x_job_fields.specs.Fields.{FAlu, FArgs, FBool, FCmp, FCond, FConvention, FDefs, FInteger, FLabels, FMemory, FNatural, FOption, FPair, FReal, FReg, FReloc, FRets, FRxsbg, FSet, FShift, FShifted, FTarget, FTrap, FTry, FUnary, FUses, FVecBinary, FVecCompare, FVecElementCompare, FVecShift, FVecUnary}
use Rattle.s390x_job_lines.specs.Line.{Line}
use Rattle.s390x_job_lines.specs.declared.inst_name.IntegerName.TheVariants as IntegerIs
use Rattle.s390x_job_lines.specs.declared.inst_name.MemoryName.TheVariants as MemoryIs
use Rattle.s390x_job_lines.specs.declared.inst_name.ControlName.TheVariants as ControlIs
use Rattle.s390x_job_lines.specs.declared.inst_name.VectorName.TheVariants as VectorIs
use Rattle.s390x_job_lines.specs.declared.name.LineName.TheVariants as N
use Rattle.s390x_job_lines.specs.declared.name.LineName.{LineName}
use Rattle.s390x_inst.specs.declared.args.MemArg.{MemArg}
use Rattle.s390x_inst.specs.declared.load.Load.{Load}
use Rattle.s390x_inst.specs.declared.store.Store.{Store}
use Rattle.s390x_inst.specs.declared.whole.WholeAccess.{WholeAccess}
use Rattle.s390x_inst.specs.Loads.{as_load, by_load}
use Rattle.s390x_inst.specs.Stores.{as_store, by_store}
use Rattle.s390x_inst.specs.Wholes.{as_whole, by_whole}
use Rattle.s390x_inst.specs.declared.inst.Inst.{Inst}
use Rattle.s390x_inst.specs.declared.inst.Inst.TheVariants as I
use Rattle.s390x_inst.specs.declared.vec_inst.VecInst.{VecInst}
use Rattle.s390x_inst.specs.declared.vec_inst.VecInst.TheVariants as V

-- the line of a load or a store: a register and an operand
abbrev pub access_line : LineName → Reg → MemArg → Line
access_line name rd mem = record { name = name; fields = FReg rd ∷ FMemory mem ∷ [] }

-- where there is no such access; the other instructions have lines of their own
abbrev pub no_access_line : Line
no_access_line = record { name = N.EndLine; fields = [] }

abbrev pub load_line : Load → Line
load_line l = access_line (N.Load l.op) l.rd l.mem

abbrev pub store_line : Store → Line
store_line s = access_line (N.Store s.op) s.rd s.mem

-- the line of a load or a store of one general register
abbrev pub transfer_line : Inst → Line
transfer_line i = by_load load_line (by_store store_line no_access_line (as_store i)) (as_load i)

-- the line of a load or a store of a whole vector register
abbrev pub whole_line : Option WholeAccess → Line
whole_line o = by_whole (λ w. access_line (N.Whole w.direction w.layout) w.rd w.mem) no_access_line o

-- the line of an instruction on vector or float registers
abbrev pub vector_line : VecInst → Line
vector_line (V.VecRRR op rd rn rm) = record { name = N.Vector VectorIs.VecRRR; fields = FVecBinary op ∷ FReg rd ∷ FReg rn ∷ FReg rm ∷ [] }
vector_line (V.VecRR op rd rn) = record { name = N.Vector VectorIs.VecRR; fields = FVecUnary op ∷ FReg rd ∷ FReg rn ∷ [] }
vector_line (V.VecShiftRR shift_op rd rn shift_imm shift_reg) = record { name = N.Vector VectorIs.VecShiftRR; fields = FVecShift shift_op ∷ FReg rd ∷ FReg rn ∷ FNatural W8 shift_imm ∷ FReg shift_reg ∷ [] }
vector_line (V.VecSelect rd rn rm ra) = record { name = N.Vector VectorIs.VecSelect; fields = FReg rd ∷ FReg rn ∷ FReg rm ∷ FReg ra ∷ [] }
vector_line (V.VecPermute rd rn rm ra) = record { name = N.Vector VectorIs.VecPermute; fields = FReg rd ∷ FReg rn ∷ FReg rm ∷ FReg ra ∷ [] }
vector_line (V.VecBlend rd rn rm ra) = record { name = N.Vector VectorIs.VecBlend; fields = FReg rd ∷ FReg rn ∷ FReg rm ∷ FReg ra ∷ [] }
vector_line (V.VecEvaluate imm rd rn rm ra) = record { name = N.Vector VectorIs.VecEvaluate; fields = FNatural W8 imm ∷ FReg rd ∷ FReg rn ∷ FReg rm ∷ FReg ra ∷ [] }
vector_line (V.VecPermuteDWImm rd rn rm idx1 idx2) = record { name = N.Vector VectorIs.VecPermuteDWImm; fields = FReg rd ∷ FReg rn ∷ FReg rm ∷ FNatural W8 idx1 ∷ FNatural W8 idx2 ∷ [] }
vector_line (V.VecIntCmp op rd rn rm) = record { name = N.Vector VectorIs.VecIntCmp; fields = FVecCompare op ∷ FReg rd ∷ FReg rn ∷ FReg rm ∷ [] }
vector_line (V.VecIntCmpS op rd rn rm) = record { name = N.Vector VectorIs.VecIntCmpS; fields = FVecCompare op ∷ FReg rd ∷ FReg rn ∷ FReg rm ∷ [] }
vector_line (V.VecIntEltCmp op rn rm) = record { name = N.Vector VectorIs.VecIntEltCmp; fields = FVecElementCompare op ∷ FReg rn ∷ FReg rm ∷ [] }
vector_line (V.VecInt128SCmpHi tmp rn rm) = record { name = N.Vector VectorIs.VecInt128SCmpHi; fields = FReg tmp ∷ FReg rn ∷ FReg rm ∷ [] }
vector_line (V.VecInt128UCmpHi tmp rn rm) = record { name = N.Vector VectorIs.VecInt128UCmpHi; fields = FReg tmp ∷ FReg rn ∷ FReg rm ∷ [] }
vector_line (V.VecLoadReplicate size rd mem) = record { name = N.Vector VectorIs.VecLoadReplicate; fields = FNatural W32 size ∷ FReg rd ∷ FMemory mem ∷ [] }
vector_line (V.VecLoadReplicateRev size rd mem) = record { name = N.Vector VectorIs.VecLoadReplicateRev; fields = FNatural W32 size ∷ FReg rd ∷ FMemory mem ∷ [] }
vector_line (V.VecLoadLane size rd ri mem lane_imm) = record { name = N.Vector VectorIs.VecLoadLane; fields = FNatural W32 size ∷ FReg rd ∷ FReg ri ∷ FMemory mem ∷ FNatural W8 lane_imm ∷ [] }
vector_line (V.VecLoadLaneRev size rd ri mem lane_imm) = record { name = N.Vector VectorIs.VecLoadLaneRev; fields = FNatural W32 size ∷ FReg rd ∷ FReg ri ∷ FMemory mem ∷ FNatural W8 lane_imm ∷ [] }
vector_line (V.VecLoadLaneUndef size rd mem lane_imm) = record { name = N.Vector VectorIs.VecLoadLaneUndef; fields = FNatural W32 size ∷ FReg rd ∷ FMemory mem ∷ FNatural W8 lane_imm ∷ [] }
vector_line (V.VecLoadLaneRevUndef size rd mem lane_imm) = record { name = N.Vector VectorIs.VecLoadLaneRevUndef; fields = FNatural W32 size ∷ FReg rd ∷ FMemory mem ∷ FNatural W8 lane_imm ∷ [] }
vector_line (V.VecStoreLane size rd mem lane_imm) = record { name = N.Vector VectorIs.VecStoreLane; fields = FNatural W32 size ∷ FReg rd ∷ FMemory mem ∷ FNatural W8 lane_imm ∷ [] }
vector_line (V.VecStoreLaneRev size rd mem lane_imm) = record { name = N.Vector VectorIs.VecStoreLaneRev; fields = FNatural W32 size ∷ FReg rd ∷ FMemory mem ∷ FNatural W8 lane_imm ∷ [] }
vector_line (V.VecMov rd rn) = record { name = N.Vector VectorIs.VecMov; fields = FReg rd ∷ FReg rn ∷ [] }
vector_line (V.FpuMove32 rd rn) = record { name = N.Vector VectorIs.FpuMove32; fields = FReg rd ∷ FReg rn ∷ [] }
vector_line (V.FpuMove64 rd rn) = record { name = N.Vector VectorIs.FpuMove64; fields = FReg rd ∷ FReg rn ∷ [] }
vector_line (V.FpuCMov32 rd cond ri rm) = record { name = N.Vector VectorIs.FpuCMov32; fields = FReg rd ∷ FCond cond ∷ FReg ri ∷ FReg rm ∷ [] }
vector_line (V.FpuCMov64 rd cond ri rm) = record { name = N.Vector VectorIs.FpuCMov64; fields = FReg rd ∷ FCond cond ∷ FReg ri ∷ FReg rm ∷ [] }
vector_line (V.VecCMov rd cond ri rm) = record { name = N.Vector VectorIs.VecCMov; fields = FReg rd ∷ FCond cond ∷ FReg ri ∷ FReg rm ∷ [] }
vector_line (V.MovToVec128 rd rn rm) = record { name = N.Vector VectorIs.MovToVec128; fields = FReg rd ∷ FReg rn ∷ FReg rm ∷ [] }
vector_line (V.VecImmByteMask rd mask) = record { name = N.Vector VectorIs.VecImmByteMask; fields = FReg rd ∷ FNatural W16 mask ∷ [] }
vector_line (V.VecImmBitMask size rd start_bit end_bit) = record { name = N.Vector VectorIs.VecImmBitMask; fields = FNatural W32 size ∷ FReg rd ∷ FNatural W8 start_bit ∷ FNatural W8 end_bit ∷ [] }
vector_line (V.VecImmReplicate size rd imm) = record { name = N.Vector VectorIs.VecImmReplicate; fields = FNatural W32 size ∷ FReg rd ∷ FInteger S16 imm ∷ [] }
vector_line (V.VecInsertLane size rd ri rn lane_imm lane_reg) = record { name = N.Vector VectorIs.VecInsertLane; fields = FNatural W32 size ∷ FReg rd ∷ FReg ri ∷ FReg rn ∷ FNatural W8 lane_imm ∷ FReg lane_reg ∷ [] }
vector_line (V.VecInsertLaneUndef size rd rn lane_imm lane_reg) = record { name = N.Vector VectorIs.VecInsertLaneUndef; fields = FNatural W32 size ∷ FReg rd ∷ FReg rn ∷ FNatural W8 lane_imm ∷ FReg lane_reg ∷ [] }
vector_line (V.VecExtractLane size rd rn lane_imm lane_reg) = record { name = N.Vector VectorIs.VecExtractLane; fields = FNatural W32 size ∷ FReg rd ∷ FReg rn ∷ FNatural W8 lane_imm ∷ FReg lane_reg ∷ [] }
vector_line (V.VecInsertLaneImm size rd ri imm lane_imm) = record { name = N.Vector VectorIs.VecInsertLaneImm; fields = FNatural W32 size ∷ FReg rd ∷ FReg ri ∷ FInteger S16 imm ∷ FNatural W8 lane_imm ∷ [] }
vector_line (V.VecInsertLaneImmUndef size rd imm lane_imm) = record { name = N.Vector VectorIs.VecInsertLaneImmUndef; fields = FNatural W32 size ∷ FReg rd ∷ FInteger S16 imm ∷ FNatural W8 lane_imm ∷ [] }
vector_line (V.VecReplicateLane size rd rn lane_imm) = record { name = N.Vector VectorIs.VecReplicateLane; fields = FNatural W32 size ∷ FReg rd ∷ FReg rn ∷ FNatural W8 lane_imm ∷ [] }
vector_line (V.VecEltRev lane_count rd rn) = record { name = N.Vector VectorIs.VecEltRev; fields = FNatural W64 lane_count ∷ FReg rd ∷ FReg rn ∷ [] }
vector_line v = whole_line (as_whole v)

-- the line of an instruction; a loop's has its mask alone
abbrev pub inst_line : Inst → Line
inst_line (I.AluRRR alu_op rd rn rm) = record { name = N.Integer IntegerIs.AluRRR; fields = FAlu alu_op ∷ FReg rd ∷ FReg rn ∷ FReg rm ∷ [] }
inst_line (I.AluRRSImm16 alu_op rd rn imm) = record { name = N.Integer IntegerIs.AluRRSImm16; fields = FAlu alu_op ∷ FReg rd ∷ FReg rn ∷ FInteger S16 imm ∷ [] }
inst_line (I.AluRR alu_op rd ri rm) = record { name = N.Integer IntegerIs.AluRR; fields = FAlu alu_op ∷ FReg rd ∷ FReg ri ∷ FReg rm ∷ [] }
inst_line (I.AluRX alu_op rd ri mem) = record { name = N.Integer IntegerIs.AluRX; fields = FAlu alu_op ∷ FReg rd ∷ FReg ri ∷ FMemory mem ∷ [] }
inst_line (I.AluRSImm16 alu_op rd ri imm) = record { name = N.Integer IntegerIs.AluRSImm16; fields = FAlu alu_op ∷ FReg rd ∷ FReg ri ∷ FInteger S16 imm ∷ [] }
inst_line (I.AluRSImm32 alu_op rd ri imm) = record { name = N.Integer IntegerIs.AluRSImm32; fields = FAlu alu_op ∷ FReg rd ∷ FReg ri ∷ FInteger S32 imm ∷ [] }
inst_line (I.AluRUImm32 alu_op rd ri imm) = record { name = N.Integer IntegerIs.AluRUImm32; fields = FAlu alu_op ∷ FReg rd ∷ FReg ri ∷ FNatural W32 imm ∷ [] }
inst_line (I.AluRUImm16Shifted alu_op rd ri imm) = record { name = N.Integer IntegerIs.AluRUImm16Shifted; fields = FAlu alu_op ∷ FReg rd ∷ FReg ri ∷ FShifted W16 imm.bits imm.shift ∷ [] }
inst_line (I.AluRUImm32Shifted alu_op rd ri imm) = record { name = N.Integer IntegerIs.AluRUImm32Shifted; fields = FAlu alu_op ∷ FReg rd ∷ FReg ri ∷ FShifted W32 imm.bits imm.shift ∷ [] }
inst_line (I.SMulWide rd rn rm) = record { name = N.Integer IntegerIs.SMulWide; fields = FPair rd.hi rd.lo ∷ FReg rn ∷ FReg rm ∷ [] }
inst_line (I.UMulWide rd ri rn) = record { name = N.Integer IntegerIs.UMulWide; fields = FPair rd.hi rd.lo ∷ FReg ri ∷ FReg rn ∷ [] }
inst_line (I.SDivMod32 rd ri rn) = record { name = N.Integer IntegerIs.SDivMod32; fields = FPair rd.hi rd.lo ∷ FReg ri ∷ FReg rn ∷ [] }
inst_line (I.SDivMod64 rd ri rn) = record { name = N.Integer IntegerIs.SDivMod64; fields = FPair rd.hi rd.lo ∷ FReg ri ∷ FReg rn ∷ [] }
inst_line (I.UDivMod32 rd ri rn) = record { name = N.Integer IntegerIs.UDivMod32; fields = FPair rd.hi rd.lo ∷ FPair ri.hi ri.lo ∷ FReg rn ∷ [] }
inst_line (I.UDivMod64 rd ri rn) = record { name = N.Integer IntegerIs.UDivMod64; fields = FPair rd.hi rd.lo ∷ FPair ri.hi ri.lo ∷ FReg rn ∷ [] }
inst_line (I.Flogr rd rn) = record { name = N.Integer IntegerIs.Flogr; fields = FPair rd.hi rd.lo ∷ FReg rn ∷ [] }
inst_line (I.ShiftRR shift_op rd rn shift_imm shift_reg) = record { name = N.Integer IntegerIs.ShiftRR; fields = FShift shift_op ∷ FReg rd ∷ FReg rn ∷ FNatural W8 shift_imm ∷ FReg shift_reg ∷ [] }
inst_line (I.RxSBG op rd ri rn start_bit end_bit rotate_amt) = record { name = N.Integer IntegerIs.RxSBG; fields = FRxsbg op ∷ FReg rd ∷ FReg ri ∷ FReg rn ∷ FNatural W8 start_bit ∷ FNatural W8 end_bit ∷ FInteger S8 rotate_amt ∷ [] }
inst_line (I.RxSBGTest op rd rn start_bit end_bit rotate_amt) = record { name = N.Integer IntegerIs.RxSBGTest; fields = FRxsbg op ∷ FReg rd ∷ FReg rn ∷ FNatural W8 start_bit ∷ FNatural W8 end_bit ∷ FInteger S8 rotate_amt ∷ [] }
inst_line (I.UnaryRR op rd rn) = record { name = N.Integer IntegerIs.UnaryRR; fields = FUnary op ∷ FReg rd ∷ FReg rn ∷ [] }
inst_line (I.CmpRR op rn rm) = record { name = N.Integer IntegerIs.CmpRR; fields = FCmp op ∷ FReg rn ∷ FReg rm ∷ [] }
inst_line (I.CmpRX op rn mem) = record { name = N.Integer IntegerIs.CmpRX; fields = FCmp op ∷ FReg rn ∷ FMemory mem ∷ [] }
inst_line (I.CmpRSImm16 op rn imm) = record { name = N.Integer IntegerIs.CmpRSImm16; fields = FCmp op ∷ FReg rn ∷ FInteger S16 imm ∷ [] }
inst_line (I.CmpRSImm32 op rn imm) = record { name = N.Integer IntegerIs.CmpRSImm32; fields = FCmp op ∷ FReg rn ∷ FInteger S32 imm ∷ [] }
inst_line (I.CmpRUImm32 op rn imm) = record { name = N.Integer IntegerIs.CmpRUImm32; fields = FCmp op ∷ FReg rn ∷ FNatural W32 imm ∷ [] }
inst_line (I.CmpTrapRR op rn rm cond trap_code) = record { name = N.Integer IntegerIs.CmpTrapRR; fields = FCmp op ∷ FReg rn ∷ FReg rm ∷ FCond cond ∷ FTrap trap_code ∷ [] }
inst_line (I.CmpTrapRSImm16 op rn imm cond trap_code) = record { name = N.Integer IntegerIs.CmpTrapRSImm16; fields = FCmp op ∷ FReg rn ∷ FInteger S16 imm ∷ FCond cond ∷ FTrap trap_code ∷ [] }
inst_line (I.CmpTrapRUImm16 op rn imm cond trap_code) = record { name = N.Integer IntegerIs.CmpTrapRUImm16; fields = FCmp op ∷ FReg rn ∷ FNatural W16 imm ∷ FCond cond ∷ FTrap trap_code ∷ [] }
inst_line (I.Mov64 rd rm) = record { name = N.Integer IntegerIs.Mov64; fields = FReg rd ∷ FReg rm ∷ [] }
inst_line (I.MovPReg rd rm) = record { name = N.Integer IntegerIs.MovPReg; fields = FReg rd ∷ FReal rm ∷ [] }
inst_line (I.Mov32 rd rm) = record { name = N.Integer IntegerIs.Mov32; fields = FReg rd ∷ FReg rm ∷ [] }
inst_line (I.Mov32Imm rd imm) = record { name = N.Integer IntegerIs.Mov32Imm; fields = FReg rd ∷ FNatural W32 imm ∷ [] }
inst_line (I.Mov32SImm16 rd imm) = record { name = N.Integer IntegerIs.Mov32SImm16; fields = FReg rd ∷ FInteger S16 imm ∷ [] }
inst_line (I.Mov64SImm16 rd imm) = record { name = N.Integer IntegerIs.Mov64SImm16; fields = FReg rd ∷ FInteger S16 imm ∷ [] }
inst_line (I.Mov64SImm32 rd imm) = record { name = N.Integer IntegerIs.Mov64SImm32; fields = FReg rd ∷ FInteger S32 imm ∷ [] }
inst_line (I.Mov64UImm16Shifted rd imm) = record { name = N.Integer IntegerIs.Mov64UImm16Shifted; fields = FReg rd ∷ FShifted W16 imm.bits imm.shift ∷ [] }
inst_line (I.Mov64UImm32Shifted rd imm) = record { name = N.Integer IntegerIs.Mov64UImm32Shifted; fields = FReg rd ∷ FShifted W32 imm.bits imm.shift ∷ [] }
inst_line (I.Insert64UImm16Shifted rd ri imm) = record { name = N.Integer IntegerIs.Insert64UImm16Shifted; fields = FReg rd ∷ FReg ri ∷ FShifted W16 imm.bits imm.shift ∷ [] }
inst_line (I.Insert64UImm32Shifted rd ri imm) = record { name = N.Integer IntegerIs.Insert64UImm32Shifted; fields = FReg rd ∷ FReg ri ∷ FShifted W32 imm.bits imm.shift ∷ [] }
inst_line (I.CMov32 rd cond ri rm) = record { name = N.Integer IntegerIs.CMov32; fields = FReg rd ∷ FCond cond ∷ FReg ri ∷ FReg rm ∷ [] }
inst_line (I.CMov64 rd cond ri rm) = record { name = N.Integer IntegerIs.CMov64; fields = FReg rd ∷ FCond cond ∷ FReg ri ∷ FReg rm ∷ [] }
inst_line (I.CMov32SImm16 rd cond ri imm) = record { name = N.Integer IntegerIs.CMov32SImm16; fields = FReg rd ∷ FCond cond ∷ FReg ri ∷ FInteger S16 imm ∷ [] }
inst_line (I.CMov64SImm16 rd cond ri imm) = record { name = N.Integer IntegerIs.CMov64SImm16; fields = FReg rd ∷ FCond cond ∷ FReg ri ∷ FInteger S16 imm ∷ [] }
inst_line (I.Extend rd rn signed from_bits to_bits) = record { name = N.Integer IntegerIs.Extend; fields = FReg rd ∷ FReg rn ∷ FBool signed ∷ FNatural W8 from_bits ∷ FNatural W8 to_bits ∷ [] }
inst_line (I.LoadAR rd ar) = record { name = N.Integer IntegerIs.LoadAR; fields = FReg rd ∷ FNatural W8 ar ∷ [] }
inst_line (I.InsertAR rd ri ar) = record { name = N.Integer IntegerIs.InsertAR; fields = FReg rd ∷ FReg ri ∷ FNatural W8 ar ∷ [] }
inst_line (I.StoreImm8 imm mem) = record { name = N.Memory MemoryIs.StoreImm8; fields = FNatural W8 imm ∷ FMemory mem ∷ [] }
inst_line (I.StoreImm16 imm mem) = record { name = N.Memory MemoryIs.StoreImm16; fields = FInteger S16 imm ∷ FMemory mem ∷ [] }
inst_line (I.StoreImm32SExt16 imm mem) = record { name = N.Memory MemoryIs.StoreImm32SExt16; fields = FInteger S16 imm ∷ FMemory mem ∷ [] }
inst_line (I.StoreImm64SExt16 imm mem) = record { name = N.Memory MemoryIs.StoreImm64SExt16; fields = FInteger S16 imm ∷ FMemory mem ∷ [] }
inst_line (I.LoadMultiple64 rt rt2 mem) = record { name = N.Memory MemoryIs.LoadMultiple64; fields = FReg rt ∷ FReg rt2 ∷ FMemory mem ∷ [] }
inst_line (I.StoreMultiple64 rt rt2 mem) = record { name = N.Memory MemoryIs.StoreMultiple64; fields = FReg rt ∷ FReg rt2 ∷ FMemory mem ∷ [] }
inst_line (I.LoadAddr rd mem) = record { name = N.Memory MemoryIs.LoadAddr; fields = FReg rd ∷ FMemory mem ∷ [] }
inst_line (I.LoadIndexedAddr rd base index offset size) = record { name = N.Memory MemoryIs.LoadIndexedAddr; fields = FReg rd ∷ FReg base ∷ FReg index ∷ FInteger S20 offset ∷ FNatural W8 size ∷ [] }
inst_line (I.LoadLogicalIndexedAddr rd base index offset size) = record { name = N.Memory MemoryIs.LoadLogicalIndexedAddr; fields = FReg rd ∷ FReg base ∷ FReg index ∷ FInteger S20 offset ∷ FNatural W8 size ∷ [] }
inst_line (I.AtomicRmw alu_op rd rn mem) = record { name = N.Memory MemoryIs.AtomicRmw; fields = FAlu alu_op ∷ FReg rd ∷ FReg rn ∷ FMemory mem ∷ [] }
inst_line (I.AtomicCas32 rd ri rn mem) = record { name = N.Memory MemoryIs.AtomicCas32; fields = FReg rd ∷ FReg ri ∷ FReg rn ∷ FMemory mem ∷ [] }
inst_line (I.AtomicCas64 rd ri rn mem) = record { name = N.Memory MemoryIs.AtomicCas64; fields = FReg rd ∷ FReg ri ∷ FReg rn ∷ FMemory mem ∷ [] }
inst_line I.Fence = record { name = N.Control ControlIs.Fence; fields = [] }
inst_line I.Nop0 = record { name = N.Control ControlIs.Nop0; fields = [] }
inst_line I.Nop2 = record { name = N.Control ControlIs.Nop2; fields = [] }
inst_line I.Debugtrap = record { name = N.Control ControlIs.Debugtrap; fields = [] }
inst_line (I.Trap trap_code) = record { name = N.Control ControlIs.Trap; fields = FTrap trap_code ∷ [] }
inst_line (I.TrapIf cond trap_code) = record { name = N.Control ControlIs.TrapIf; fields = FCond cond ∷ FTrap trap_code ∷ [] }
inst_line (I.Jump dest) = record { name = N.Control ControlIs.Jump; fields = FNatural W32 dest.0 ∷ [] }
inst_line (I.CondBr taken not_taken cond) = record { name = N.Control ControlIs.CondBr; fields = FNatural W32 taken.0 ∷ FNatural W32 not_taken.0 ∷ FCond cond ∷ [] }
inst_line (I.IndirectBr rn targets) = record { name = N.Control ControlIs.IndirectBr; fields = FReg rn ∷ FLabels targets.items ∷ [] }
inst_line (I.Ret link) = record { name = N.Control ControlIs.Ret; fields = FReg link ∷ [] }
inst_line (I.JTSequence ridx default default_cond targets) = record { name = N.Control ControlIs.JTSequence; fields = FReg ridx ∷ FNatural W32 default.0 ∷ FCond default_cond ∷ FLabels targets.items ∷ [] }
inst_line (I.Loop' cond body members_of) = record { name = N.Loop; fields = FCond cond ∷ [] }
inst_line (I.CondBreak cond) = record { name = N.Control ControlIs.CondBreak; fields = FCond cond ∷ [] }
inst_line (I.Call link info) = record {
  name = N.Control ControlIs.Call;
  fields = FReg link ∷ FTarget info.dest ∷ FUses info.uses.items ∷ FDefs info.defs.items ∷ FSet (members_of (has info.clobbers)) ∷ FNatural W32 info.callee_pop_size ∷ FConvention info.caller_conv ∷ FConvention info.callee_conv ∷ FTry (try_part info.try_call_info) ∷ FBool info.patchable ∷ FOption W32 info.stack_map ∷ [];
}
inst_line (I.ReturnCall info) = record { name = N.Control ControlIs.ReturnCall; fields = FTarget info.dest ∷ FUses info.uses.items ∷ FNatural W32 info.callee_pop_size ∷ [] }
inst_line (I.AllocateArgs size) = record { name = N.Control ControlIs.AllocateArgs; fields = FNatural W32 size ∷ [] }
inst_line (I.LoadSymbolReloc rd symbol_reloc) = record { name = N.Control ControlIs.LoadSymbolReloc; fields = FReg rd ∷ FReloc symbol_reloc ∷ [] }
inst_line (I.LabelAddress dst label) = record { name = N.Control ControlIs.LabelAddress; fields = FReg dst ∷ FNatural W32 label.0 ∷ [] }
inst_line (I.Args args) = record { name = N.Control ControlIs.Args; fields = FArgs args.items ∷ [] }
inst_line (I.Rets rets) = record { name = N.Control ControlIs.Rets; fields = FRets rets.items ∷ [] }
inst_line (I.DummyUse reg) = record { name = N.Control ControlIs.DummyUse; fields = FReg reg ∷ [] }
inst_line I.SequencePoint = record { name = N.Control ControlIs.SequencePoint; fields = [] }
inst_line (I.Vector v) = vector_line v
inst_line i = transfer_line i
