-- The kinds of the fields that a line of each name has, and what an instruction with these fields holds.
use Rattle.std.specs.Prelude.{ℕ, ℤ, Bool, Option, List, [], ◌∷◌}
use Rattle.s390x_base.specs.Registers.{RealRegister}
use Rattle.s390x_base.specs.declared.regs.Reg.{Reg}
use Rattle.s390x_base.specs.declared.regs.RegPair.{RegPair}
use Rattle.s390x_base.specs.declared.regs.WritableRegPair.{WritableRegPair}
use Rattle.s390x_base.specs.declared.ir.MachLabel.{MachLabel}
use Rattle.s390x_base.specs.declared.imms.UImm16Shifted.{UImm16Shifted}
use Rattle.s390x_base.specs.declared.imms.UImm32Shifted.{UImm32Shifted}
use Rattle.s390x_base.specs.declared.trap.TrapKind.{TrapKind}
use Rattle.s390x_inst.specs.declared.args.MemArg.{MemArg}
use Rattle.s390x_inst.specs.declared.calls.ArgPair.{ArgPair}
use Rattle.s390x_inst.specs.declared.calls.RetPair.{RetPair}
use Rattle.s390x_inst.specs.declared.calls.CallArgPair.{CallArgPair}
use Rattle.s390x_inst.specs.declared.calls.CallConv.{CallConv}
use Rattle.s390x_inst.specs.declared.calls.CallInstDest.{CallInstDest}
use Rattle.s390x_inst.specs.declared.calls.CallRetPair.{CallRetPair}
use Rattle.s390x_inst.specs.declared.calls.SymbolReloc.{SymbolReloc}
use Rattle.s390x_inst.specs.declared.inst.Inst.TheVariants as I
use Rattle.s390x_inst.specs.declared.ops.ALUOp.{ALUOp}
use Rattle.s390x_inst.specs.declared.ops.CmpOp.{CmpOp}
use Rattle.s390x_inst.specs.declared.ops.ShiftOp.{ShiftOp}
use Rattle.s390x_inst.specs.declared.ops.RxSBGOp.{RxSBGOp}
use Rattle.s390x_inst.specs.declared.ops.UnaryOp.{UnaryOp}
use Rattle.s390x_inst.specs.declared.vec_inst.VecInst.TheVariants as V
use Rattle.s390x_inst.specs.declared.vec_ops.VecBinaryOp.{VecBinaryOp}
use Rattle.s390x_inst.specs.declared.vec_ops.VecUnaryOp.{VecUnaryOp}
use Rattle.s390x_inst.specs.declared.vec_ops.VecShiftOp.{VecShiftOp}
use Rattle.s390x_inst.specs.declared.vec_ops.VecIntCmpOp.{VecIntCmpOp}
use Rattle.s390x_inst.specs.declared.vec_ops.VecIntEltCmpOp.{VecIntEltCmpOp}
use Rattle.s390x_job_fields.specs.Calls.{TryPart}
use Rattle.s390x_job_fields.specs.Numbers.{W8, W16, W32, W64, S8, S16, S20, S32}
use Rattle.s390x_job_fields.specs.Fields.{KAlu, KArgs, KBool, KBytes, KCmp, KCond, KConvention, KDefs, KFlags, KInteger, KLabels, KMemory, KName, KNatural, KOption, KPair, KReal, KReg, KReloc, KRets, KRxsbg, KSet, KShift, KShifted, KStart, KTarget, KTrap, KTry, KUnary, KUses, KVecBinary, KVecCompare, KVecElementCompare, KVecShift, KVecUnary, Kind}
use Rattle.s390x_job_lines.specs.Contents.{Contents, Whole, Branches, Table, Calls, TailCalls, Arguments, Results}
use Rattle.s390x_job_lines.specs.declared.inst_name.IntegerName.{IntegerName}
use Rattle.s390x_job_lines.specs.declared.inst_name.IntegerName.TheVariants as IntegerIs
use Rattle.s390x_job_lines.specs.declared.inst_name.MemoryName.{MemoryName}
use Rattle.s390x_job_lines.specs.declared.inst_name.MemoryName.TheVariants as MemoryIs
use Rattle.s390x_job_lines.specs.declared.inst_name.ControlName.{ControlName}
use Rattle.s390x_job_lines.specs.declared.inst_name.ControlName.TheVariants as ControlIs
use Rattle.s390x_job_lines.specs.declared.inst_name.VectorName.{VectorName}
use Rattle.s390x_job_lines.specs.declared.inst_name.VectorName.TheVariants as VectorIs
use Rattle.s390x_job_lines.specs.declared.name.LineName.{LineName}
use Rattle.s390x_job_lines.specs.declared.name.LineName.TheVariants as N

-- what takes the value of a field of this kind; no instruction has a field of the last four kinds
abbrev pub Takes : Kind → Type 0 → Type 0
Takes KReg T = Reg → T
Takes KReal T = RealRegister → T
Takes KPair T = Reg → Reg → T
Takes KAlu T = ALUOp → T
Takes KCmp T = CmpOp → T
Takes KShift T = ShiftOp → T
Takes KRxsbg T = RxSBGOp → T
Takes KUnary T = UnaryOp → T
Takes KVecBinary T = VecBinaryOp → T
Takes KVecUnary T = VecUnaryOp → T
Takes KVecShift T = VecShiftOp → T
Takes KVecCompare T = VecIntCmpOp → T
Takes KVecElementCompare T = VecIntEltCmpOp → T
Takes KConvention T = CallConv → T
Takes KBool T = Bool → T
Takes (KNatural w) T = ℕ → T
Takes (KInteger w) T = ℤ → T
Takes (KShifted w) T = ℕ → ℕ → T
Takes KMemory T = MemArg → T
Takes KCond T = ℕ → T
Takes KTrap T = TrapKind → T
Takes KLabels T = List MachLabel → T
Takes KArgs T = List ArgPair → T
Takes KRets T = List RetPair → T
Takes KUses T = List CallArgPair → T
Takes KDefs T = List CallRetPair → T
Takes KSet T = List RealRegister → T
Takes KTarget T = CallInstDest → T
Takes KTry T = TryPart → T
Takes (KOption w) T = Option ℕ → T
Takes KReloc T = SymbolReloc → T
Takes KName T = T
Takes KBytes T = T
Takes KStart T = T
Takes KFlags T = T

-- what takes the values of fields of these kinds, one after another
abbrev pub TakesEach : List Kind → Type 0 → Type 0
TakesEach [] T = T
TakesEach (k ∷ ks) T = Takes k (TakesEach ks T)

-- the line of an instruction: the kinds of its fields, and what the instruction holds, by their values
pub record Row : Type 0 where
  pub kinds : List Kind
  pub holds : TakesEach kinds Contents

-- the values that two registers or two numbers are, and a label by its number
abbrev pub label_of : ℕ → MachLabel
label_of n = record { 0 = n }

abbrev pub part16 : (bits shift : ℕ) → UImm16Shifted
part16 bits shift = record { bits = bits; shift = shift }

abbrev pub part32 : (bits shift : ℕ) → UImm32Shifted
part32 bits shift = record { bits = bits; shift = shift }

abbrev pub written_pair : (high low : Reg) → WritableRegPair
written_pair high low = record { hi = high; lo = low }

abbrev pub read_pair : (high low : Reg) → RegPair
read_pair high low = record { hi = high; lo = low }

-- of the instructions on general registers alone
abbrev pub integer_row : IntegerName → Row
integer_row IntegerIs.AluRRR = record { kinds = KAlu ∷ KReg ∷ KReg ∷ KReg ∷ []; holds = λ op rd rn rm. Whole (I.AluRRR op rd rn rm) }
integer_row IntegerIs.AluRRSImm16 = record { kinds = KAlu ∷ KReg ∷ KReg ∷ KInteger S16 ∷ []; holds = λ op rd rn imm. Whole (I.AluRRSImm16 op rd rn imm) }
integer_row IntegerIs.AluRR = record { kinds = KAlu ∷ KReg ∷ KReg ∷ KReg ∷ []; holds = λ op rd ri rm. Whole (I.AluRR op rd ri rm) }
integer_row IntegerIs.AluRX = record { kinds = KAlu ∷ KReg ∷ KReg ∷ KMemory ∷ []; holds = λ op rd ri mem. Whole (I.AluRX op rd ri mem) }
integer_row IntegerIs.AluRSImm16 = record { kinds = KAlu ∷ KReg ∷ KReg ∷ KInteger S16 ∷ []; holds = λ op rd ri imm. Whole (I.AluRSImm16 op rd ri imm) }
integer_row IntegerIs.AluRSImm32 = record { kinds = KAlu ∷ KReg ∷ KReg ∷ KInteger S32 ∷ []; holds = λ op rd ri imm. Whole (I.AluRSImm32 op rd ri imm) }
integer_row IntegerIs.AluRUImm32 = record { kinds = KAlu ∷ KReg ∷ KReg ∷ KNatural W32 ∷ []; holds = λ op rd ri imm. Whole (I.AluRUImm32 op rd ri imm) }
integer_row IntegerIs.AluRUImm16Shifted = record { kinds = KAlu ∷ KReg ∷ KReg ∷ KShifted W16 ∷ []; holds = λ op rd ri bits shift. Whole (I.AluRUImm16Shifted op rd ri (part16 bits shift)) }
integer_row IntegerIs.AluRUImm32Shifted = record { kinds = KAlu ∷ KReg ∷ KReg ∷ KShifted W32 ∷ []; holds = λ op rd ri bits shift. Whole (I.AluRUImm32Shifted op rd ri (part32 bits shift)) }
integer_row IntegerIs.SMulWide = record { kinds = KPair ∷ KReg ∷ KReg ∷ []; holds = λ high low rn rm. Whole (I.SMulWide (written_pair high low) rn rm) }
integer_row IntegerIs.UMulWide = record { kinds = KPair ∷ KReg ∷ KReg ∷ []; holds = λ high low ri rn. Whole (I.UMulWide (written_pair high low) ri rn) }
integer_row IntegerIs.SDivMod32 = record { kinds = KPair ∷ KReg ∷ KReg ∷ []; holds = λ high low ri rn. Whole (I.SDivMod32 (written_pair high low) ri rn) }
integer_row IntegerIs.SDivMod64 = record { kinds = KPair ∷ KReg ∷ KReg ∷ []; holds = λ high low ri rn. Whole (I.SDivMod64 (written_pair high low) ri rn) }
integer_row IntegerIs.UDivMod32 = record { kinds = KPair ∷ KPair ∷ KReg ∷ []; holds = λ high low h l rn. Whole (I.UDivMod32 (written_pair high low) (read_pair h l) rn) }
integer_row IntegerIs.UDivMod64 = record { kinds = KPair ∷ KPair ∷ KReg ∷ []; holds = λ high low h l rn. Whole (I.UDivMod64 (written_pair high low) (read_pair h l) rn) }
integer_row IntegerIs.Flogr = record { kinds = KPair ∷ KReg ∷ []; holds = λ high low rn. Whole (I.Flogr (written_pair high low) rn) }
integer_row IntegerIs.ShiftRR = record { kinds = KShift ∷ KReg ∷ KReg ∷ KNatural W8 ∷ KReg ∷ []; holds = λ op rd rn amount register. Whole (I.ShiftRR op rd rn amount register) }
integer_row IntegerIs.RxSBG = record { kinds = KRxsbg ∷ KReg ∷ KReg ∷ KReg ∷ KNatural W8 ∷ KNatural W8 ∷ KInteger S8 ∷ []; holds = λ op rd ri rn start end amount. Whole (I.RxSBG op rd ri rn start end amount) }
integer_row IntegerIs.RxSBGTest = record { kinds = KRxsbg ∷ KReg ∷ KReg ∷ KNatural W8 ∷ KNatural W8 ∷ KInteger S8 ∷ []; holds = λ op rd rn start end amount. Whole (I.RxSBGTest op rd rn start end amount) }
integer_row IntegerIs.UnaryRR = record { kinds = KUnary ∷ KReg ∷ KReg ∷ []; holds = λ op rd rn. Whole (I.UnaryRR op rd rn) }
integer_row IntegerIs.CmpRR = record { kinds = KCmp ∷ KReg ∷ KReg ∷ []; holds = λ op rn rm. Whole (I.CmpRR op rn rm) }
integer_row IntegerIs.CmpRX = record { kinds = KCmp ∷ KReg ∷ KMemory ∷ []; holds = λ op rn mem. Whole (I.CmpRX op rn mem) }
integer_row IntegerIs.CmpRSImm16 = record { kinds = KCmp ∷ KReg ∷ KInteger S16 ∷ []; holds = λ op rn imm. Whole (I.CmpRSImm16 op rn imm) }
integer_row IntegerIs.CmpRSImm32 = record { kinds = KCmp ∷ KReg ∷ KInteger S32 ∷ []; holds = λ op rn imm. Whole (I.CmpRSImm32 op rn imm) }
integer_row IntegerIs.CmpRUImm32 = record { kinds = KCmp ∷ KReg ∷ KNatural W32 ∷ []; holds = λ op rn imm. Whole (I.CmpRUImm32 op rn imm) }
integer_row IntegerIs.CmpTrapRR = record { kinds = KCmp ∷ KReg ∷ KReg ∷ KCond ∷ KTrap ∷ []; holds = λ op rn rm mask code. Whole (I.CmpTrapRR op rn rm mask code) }
integer_row IntegerIs.CmpTrapRSImm16 = record { kinds = KCmp ∷ KReg ∷ KInteger S16 ∷ KCond ∷ KTrap ∷ []; holds = λ op rn imm mask code. Whole (I.CmpTrapRSImm16 op rn imm mask code) }
integer_row IntegerIs.CmpTrapRUImm16 = record { kinds = KCmp ∷ KReg ∷ KNatural W16 ∷ KCond ∷ KTrap ∷ []; holds = λ op rn imm mask code. Whole (I.CmpTrapRUImm16 op rn imm mask code) }
integer_row IntegerIs.Mov64 = record { kinds = KReg ∷ KReg ∷ []; holds = λ rd rm. Whole (I.Mov64 rd rm) }
integer_row IntegerIs.MovPReg = record { kinds = KReg ∷ KReal ∷ []; holds = λ rd rm. Whole (I.MovPReg rd rm) }
integer_row IntegerIs.Mov32 = record { kinds = KReg ∷ KReg ∷ []; holds = λ rd rm. Whole (I.Mov32 rd rm) }
integer_row IntegerIs.Mov32Imm = record { kinds = KReg ∷ KNatural W32 ∷ []; holds = λ rd imm. Whole (I.Mov32Imm rd imm) }
integer_row IntegerIs.Mov32SImm16 = record { kinds = KReg ∷ KInteger S16 ∷ []; holds = λ rd imm. Whole (I.Mov32SImm16 rd imm) }
integer_row IntegerIs.Mov64SImm16 = record { kinds = KReg ∷ KInteger S16 ∷ []; holds = λ rd imm. Whole (I.Mov64SImm16 rd imm) }
integer_row IntegerIs.Mov64SImm32 = record { kinds = KReg ∷ KInteger S32 ∷ []; holds = λ rd imm. Whole (I.Mov64SImm32 rd imm) }
integer_row IntegerIs.Mov64UImm16Shifted = record { kinds = KReg ∷ KShifted W16 ∷ []; holds = λ rd bits shift. Whole (I.Mov64UImm16Shifted rd (part16 bits shift)) }
integer_row IntegerIs.Mov64UImm32Shifted = record { kinds = KReg ∷ KShifted W32 ∷ []; holds = λ rd bits shift. Whole (I.Mov64UImm32Shifted rd (part32 bits shift)) }
integer_row IntegerIs.Insert64UImm16Shifted = record { kinds = KReg ∷ KReg ∷ KShifted W16 ∷ []; holds = λ rd ri bits shift. Whole (I.Insert64UImm16Shifted rd ri (part16 bits shift)) }
integer_row IntegerIs.Insert64UImm32Shifted = record { kinds = KReg ∷ KReg ∷ KShifted W32 ∷ []; holds = λ rd ri bits shift. Whole (I.Insert64UImm32Shifted rd ri (part32 bits shift)) }
integer_row IntegerIs.CMov32 = record { kinds = KReg ∷ KCond ∷ KReg ∷ KReg ∷ []; holds = λ rd mask ri rm. Whole (I.CMov32 rd mask ri rm) }
integer_row IntegerIs.CMov64 = record { kinds = KReg ∷ KCond ∷ KReg ∷ KReg ∷ []; holds = λ rd mask ri rm. Whole (I.CMov64 rd mask ri rm) }
integer_row IntegerIs.CMov32SImm16 = record { kinds = KReg ∷ KCond ∷ KReg ∷ KInteger S16 ∷ []; holds = λ rd mask ri imm. Whole (I.CMov32SImm16 rd mask ri imm) }
integer_row IntegerIs.CMov64SImm16 = record { kinds = KReg ∷ KCond ∷ KReg ∷ KInteger S16 ∷ []; holds = λ rd mask ri imm. Whole (I.CMov64SImm16 rd mask ri imm) }
integer_row IntegerIs.Extend = record { kinds = KReg ∷ KReg ∷ KBool ∷ KNatural W8 ∷ KNatural W8 ∷ []; holds = λ rd rn signed from to. Whole (I.Extend rd rn signed from to) }
integer_row IntegerIs.LoadAR = record { kinds = KReg ∷ KNatural W8 ∷ []; holds = λ rd ar. Whole (I.LoadAR rd ar) }
integer_row IntegerIs.InsertAR = record { kinds = KReg ∷ KReg ∷ KNatural W8 ∷ []; holds = λ rd ri ar. Whole (I.InsertAR rd ri ar) }

-- of multiple loads and stores, stores of numbers, addresses and atomic instructions
abbrev pub memory_row : MemoryName → Row
memory_row MemoryIs.StoreImm8 = record { kinds = KNatural W8 ∷ KMemory ∷ []; holds = λ imm mem. Whole (I.StoreImm8 imm mem) }
memory_row MemoryIs.StoreImm16 = record { kinds = KInteger S16 ∷ KMemory ∷ []; holds = λ imm mem. Whole (I.StoreImm16 imm mem) }
memory_row MemoryIs.StoreImm32SExt16 = record { kinds = KInteger S16 ∷ KMemory ∷ []; holds = λ imm mem. Whole (I.StoreImm32SExt16 imm mem) }
memory_row MemoryIs.StoreImm64SExt16 = record { kinds = KInteger S16 ∷ KMemory ∷ []; holds = λ imm mem. Whole (I.StoreImm64SExt16 imm mem) }
memory_row MemoryIs.LoadMultiple64 = record { kinds = KReg ∷ KReg ∷ KMemory ∷ []; holds = λ rt rt2 mem. Whole (I.LoadMultiple64 rt rt2 mem) }
memory_row MemoryIs.StoreMultiple64 = record { kinds = KReg ∷ KReg ∷ KMemory ∷ []; holds = λ rt rt2 mem. Whole (I.StoreMultiple64 rt rt2 mem) }
memory_row MemoryIs.LoadAddr = record { kinds = KReg ∷ KMemory ∷ []; holds = λ rd mem. Whole (I.LoadAddr rd mem) }
memory_row MemoryIs.LoadIndexedAddr = record { kinds = KReg ∷ KReg ∷ KReg ∷ KInteger S20 ∷ KNatural W8 ∷ []; holds = λ rd base index offset size. Whole (I.LoadIndexedAddr rd base index offset size) }
memory_row MemoryIs.LoadLogicalIndexedAddr = record { kinds = KReg ∷ KReg ∷ KReg ∷ KInteger S20 ∷ KNatural W8 ∷ []; holds = λ rd base index offset size. Whole (I.LoadLogicalIndexedAddr rd base index offset size) }
memory_row MemoryIs.AtomicRmw = record { kinds = KAlu ∷ KReg ∷ KReg ∷ KMemory ∷ []; holds = λ op rd rn mem. Whole (I.AtomicRmw op rd rn mem) }
memory_row MemoryIs.AtomicCas32 = record { kinds = KReg ∷ KReg ∷ KReg ∷ KMemory ∷ []; holds = λ rd ri rn mem. Whole (I.AtomicCas32 rd ri rn mem) }
memory_row MemoryIs.AtomicCas64 = record { kinds = KReg ∷ KReg ∷ KReg ∷ KMemory ∷ []; holds = λ rd ri rn mem. Whole (I.AtomicCas64 rd ri rn mem) }

-- of traps, branches and calls, and of what has no code
abbrev pub control_row : ControlName → Row
control_row ControlIs.Fence = record { kinds = []; holds = Whole I.Fence }
control_row ControlIs.Nop0 = record { kinds = []; holds = Whole I.Nop0 }
control_row ControlIs.Nop2 = record { kinds = []; holds = Whole I.Nop2 }
control_row ControlIs.Debugtrap = record { kinds = []; holds = Whole I.Debugtrap }
control_row ControlIs.Trap = record { kinds = KTrap ∷ []; holds = λ code. Whole (I.Trap code) }
control_row ControlIs.TrapIf = record { kinds = KCond ∷ KTrap ∷ []; holds = λ mask code. Whole (I.TrapIf mask code) }
control_row ControlIs.Jump = record { kinds = KNatural W32 ∷ []; holds = λ dest. Whole (I.Jump (label_of dest)) }
control_row ControlIs.CondBr = record { kinds = KNatural W32 ∷ KNatural W32 ∷ KCond ∷ []; holds = λ taken not_taken mask. Whole (I.CondBr (label_of taken) (label_of not_taken) mask) }
control_row ControlIs.IndirectBr = record { kinds = KReg ∷ KLabels ∷ []; holds = λ rn targets. Branches rn targets }
control_row ControlIs.Ret = record { kinds = KReg ∷ []; holds = λ link. Whole (I.Ret link) }
control_row ControlIs.JTSequence = record { kinds = KReg ∷ KNatural W32 ∷ KCond ∷ KLabels ∷ []; holds = λ index other mask targets. Table index (label_of other) mask targets }
control_row ControlIs.CondBreak = record { kinds = KCond ∷ []; holds = λ mask. Whole (I.CondBreak mask) }
control_row ControlIs.Call = record { kinds = KReg ∷ KTarget ∷ KUses ∷ KDefs ∷ KSet ∷ KNatural W32 ∷ KConvention ∷ KConvention ∷ KTry ∷ KBool ∷ KOption W32 ∷ []; holds = λ link dest uses defs clobbers size caller callee handlers patchable map. Calls (record { link = link; dest = dest; uses = uses; defs = defs; clobbers = clobbers; callee_pop_size = size; caller_conv = caller; callee_conv = callee; try_call_info = handlers; patchable = patchable; stack_map = map }) }
control_row ControlIs.ReturnCall = record { kinds = KTarget ∷ KUses ∷ KNatural W32 ∷ []; holds = λ dest uses size. TailCalls dest uses size }
control_row ControlIs.AllocateArgs = record { kinds = KNatural W32 ∷ []; holds = λ size. Whole (I.AllocateArgs size) }
control_row ControlIs.LoadSymbolReloc = record { kinds = KReg ∷ KReloc ∷ []; holds = λ rd reloc. Whole (I.LoadSymbolReloc rd reloc) }
control_row ControlIs.LabelAddress = record { kinds = KReg ∷ KNatural W32 ∷ []; holds = λ dst label. Whole (I.LabelAddress dst (label_of label)) }
control_row ControlIs.Args = record { kinds = KArgs ∷ []; holds = λ args. Arguments args }
control_row ControlIs.Rets = record { kinds = KRets ∷ []; holds = λ rets. Results rets }
control_row ControlIs.DummyUse = record { kinds = KReg ∷ []; holds = λ reg. Whole (I.DummyUse reg) }
control_row ControlIs.SequencePoint = record { kinds = []; holds = Whole I.SequencePoint }

-- of the instructions on vector or float registers
abbrev pub vector_row : VectorName → Row
vector_row VectorIs.VecRRR = record { kinds = KVecBinary ∷ KReg ∷ KReg ∷ KReg ∷ []; holds = λ op rd rn rm. Whole (I.Vector (V.VecRRR op rd rn rm)) }
vector_row VectorIs.VecRR = record { kinds = KVecUnary ∷ KReg ∷ KReg ∷ []; holds = λ op rd rn. Whole (I.Vector (V.VecRR op rd rn)) }
vector_row VectorIs.VecShiftRR = record { kinds = KVecShift ∷ KReg ∷ KReg ∷ KNatural W8 ∷ KReg ∷ []; holds = λ shift_op rd rn shift_imm shift_reg. Whole (I.Vector (V.VecShiftRR shift_op rd rn shift_imm shift_reg)) }
vector_row VectorIs.VecSelect = record { kinds = KReg ∷ KReg ∷ KReg ∷ KReg ∷ []; holds = λ rd rn rm ra. Whole (I.Vector (V.VecSelect rd rn rm ra)) }
vector_row VectorIs.VecPermute = record { kinds = KReg ∷ KReg ∷ KReg ∷ KReg ∷ []; holds = λ rd rn rm ra. Whole (I.Vector (V.VecPermute rd rn rm ra)) }
vector_row VectorIs.VecBlend = record { kinds = KReg ∷ KReg ∷ KReg ∷ KReg ∷ []; holds = λ rd rn rm ra. Whole (I.Vector (V.VecBlend rd rn rm ra)) }
vector_row VectorIs.VecEvaluate = record { kinds = KNatural W8 ∷ KReg ∷ KReg ∷ KReg ∷ KReg ∷ []; holds = λ imm rd rn rm ra. Whole (I.Vector (V.VecEvaluate imm rd rn rm ra)) }
vector_row VectorIs.VecPermuteDWImm = record { kinds = KReg ∷ KReg ∷ KReg ∷ KNatural W8 ∷ KNatural W8 ∷ []; holds = λ rd rn rm idx1 idx2. Whole (I.Vector (V.VecPermuteDWImm rd rn rm idx1 idx2)) }
vector_row VectorIs.VecIntCmp = record { kinds = KVecCompare ∷ KReg ∷ KReg ∷ KReg ∷ []; holds = λ op rd rn rm. Whole (I.Vector (V.VecIntCmp op rd rn rm)) }
vector_row VectorIs.VecIntCmpS = record { kinds = KVecCompare ∷ KReg ∷ KReg ∷ KReg ∷ []; holds = λ op rd rn rm. Whole (I.Vector (V.VecIntCmpS op rd rn rm)) }
vector_row VectorIs.VecIntEltCmp = record { kinds = KVecElementCompare ∷ KReg ∷ KReg ∷ []; holds = λ op rn rm. Whole (I.Vector (V.VecIntEltCmp op rn rm)) }
vector_row VectorIs.VecInt128SCmpHi = record { kinds = KReg ∷ KReg ∷ KReg ∷ []; holds = λ tmp rn rm. Whole (I.Vector (V.VecInt128SCmpHi tmp rn rm)) }
vector_row VectorIs.VecInt128UCmpHi = record { kinds = KReg ∷ KReg ∷ KReg ∷ []; holds = λ tmp rn rm. Whole (I.Vector (V.VecInt128UCmpHi tmp rn rm)) }
vector_row VectorIs.VecLoadReplicate = record { kinds = KNatural W32 ∷ KReg ∷ KMemory ∷ []; holds = λ size rd mem. Whole (I.Vector (V.VecLoadReplicate size rd mem)) }
vector_row VectorIs.VecLoadReplicateRev = record { kinds = KNatural W32 ∷ KReg ∷ KMemory ∷ []; holds = λ size rd mem. Whole (I.Vector (V.VecLoadReplicateRev size rd mem)) }
vector_row VectorIs.VecLoadLane = record { kinds = KNatural W32 ∷ KReg ∷ KReg ∷ KMemory ∷ KNatural W8 ∷ []; holds = λ size rd ri mem lane_imm. Whole (I.Vector (V.VecLoadLane size rd ri mem lane_imm)) }
vector_row VectorIs.VecLoadLaneRev = record { kinds = KNatural W32 ∷ KReg ∷ KReg ∷ KMemory ∷ KNatural W8 ∷ []; holds = λ size rd ri mem lane_imm. Whole (I.Vector (V.VecLoadLaneRev size rd ri mem lane_imm)) }
vector_row VectorIs.VecLoadLaneUndef = record { kinds = KNatural W32 ∷ KReg ∷ KMemory ∷ KNatural W8 ∷ []; holds = λ size rd mem lane_imm. Whole (I.Vector (V.VecLoadLaneUndef size rd mem lane_imm)) }
vector_row VectorIs.VecLoadLaneRevUndef = record { kinds = KNatural W32 ∷ KReg ∷ KMemory ∷ KNatural W8 ∷ []; holds = λ size rd mem lane_imm. Whole (I.Vector (V.VecLoadLaneRevUndef size rd mem lane_imm)) }
vector_row VectorIs.VecStoreLane = record { kinds = KNatural W32 ∷ KReg ∷ KMemory ∷ KNatural W8 ∷ []; holds = λ size rd mem lane_imm. Whole (I.Vector (V.VecStoreLane size rd mem lane_imm)) }
vector_row VectorIs.VecStoreLaneRev = record { kinds = KNatural W32 ∷ KReg ∷ KMemory ∷ KNatural W8 ∷ []; holds = λ size rd mem lane_imm. Whole (I.Vector (V.VecStoreLaneRev size rd mem lane_imm)) }
vector_row VectorIs.VecMov = record { kinds = KReg ∷ KReg ∷ []; holds = λ rd rn. Whole (I.Vector (V.VecMov rd rn)) }
vector_row VectorIs.FpuMove32 = record { kinds = KReg ∷ KReg ∷ []; holds = λ rd rn. Whole (I.Vector (V.FpuMove32 rd rn)) }
vector_row VectorIs.FpuMove64 = record { kinds = KReg ∷ KReg ∷ []; holds = λ rd rn. Whole (I.Vector (V.FpuMove64 rd rn)) }
vector_row VectorIs.FpuCMov32 = record { kinds = KReg ∷ KCond ∷ KReg ∷ KReg ∷ []; holds = λ rd cond ri rm. Whole (I.Vector (V.FpuCMov32 rd cond ri rm)) }
vector_row VectorIs.FpuCMov64 = record { kinds = KReg ∷ KCond ∷ KReg ∷ KReg ∷ []; holds = λ rd cond ri rm. Whole (I.Vector (V.FpuCMov64 rd cond ri rm)) }
vector_row VectorIs.VecCMov = record { kinds = KReg ∷ KCond ∷ KReg ∷ KReg ∷ []; holds = λ rd cond ri rm. Whole (I.Vector (V.VecCMov rd cond ri rm)) }
vector_row VectorIs.MovToVec128 = record { kinds = KReg ∷ KReg ∷ KReg ∷ []; holds = λ rd rn rm. Whole (I.Vector (V.MovToVec128 rd rn rm)) }
vector_row VectorIs.VecImmByteMask = record { kinds = KReg ∷ KNatural W16 ∷ []; holds = λ rd mask. Whole (I.Vector (V.VecImmByteMask rd mask)) }
vector_row VectorIs.VecImmBitMask = record { kinds = KNatural W32 ∷ KReg ∷ KNatural W8 ∷ KNatural W8 ∷ []; holds = λ size rd start_bit end_bit. Whole (I.Vector (V.VecImmBitMask size rd start_bit end_bit)) }
vector_row VectorIs.VecImmReplicate = record { kinds = KNatural W32 ∷ KReg ∷ KInteger S16 ∷ []; holds = λ size rd imm. Whole (I.Vector (V.VecImmReplicate size rd imm)) }
vector_row VectorIs.VecInsertLane = record { kinds = KNatural W32 ∷ KReg ∷ KReg ∷ KReg ∷ KNatural W8 ∷ KReg ∷ []; holds = λ size rd ri rn lane_imm lane_reg. Whole (I.Vector (V.VecInsertLane size rd ri rn lane_imm lane_reg)) }
vector_row VectorIs.VecInsertLaneUndef = record { kinds = KNatural W32 ∷ KReg ∷ KReg ∷ KNatural W8 ∷ KReg ∷ []; holds = λ size rd rn lane_imm lane_reg. Whole (I.Vector (V.VecInsertLaneUndef size rd rn lane_imm lane_reg)) }
vector_row VectorIs.VecExtractLane = record { kinds = KNatural W32 ∷ KReg ∷ KReg ∷ KNatural W8 ∷ KReg ∷ []; holds = λ size rd rn lane_imm lane_reg. Whole (I.Vector (V.VecExtractLane size rd rn lane_imm lane_reg)) }
vector_row VectorIs.VecInsertLaneImm = record { kinds = KNatural W32 ∷ KReg ∷ KReg ∷ KInteger S16 ∷ KNatural W8 ∷ []; holds = λ size rd ri imm lane_imm. Whole (I.Vector (V.VecInsertLaneImm size rd ri imm lane_imm)) }
vector_row VectorIs.VecInsertLaneImmUndef = record { kinds = KNatural W32 ∷ KReg ∷ KInteger S16 ∷ KNatural W8 ∷ []; holds = λ size rd imm lane_imm. Whole (I.Vector (V.VecInsertLaneImmUndef size rd imm lane_imm)) }
vector_row VectorIs.VecReplicateLane = record { kinds = KNatural W32 ∷ KReg ∷ KReg ∷ KNatural W8 ∷ []; holds = λ size rd rn lane_imm. Whole (I.Vector (V.VecReplicateLane size rd rn lane_imm)) }
vector_row VectorIs.VecEltRev = record { kinds = KNatural W64 ∷ KReg ∷ KReg ∷ []; holds = λ lane_count rd rn. Whole (I.Vector (V.VecEltRev lane_count rd rn)) }

-- of every line
abbrev pub kinds : LineName → List Kind
kinds N.FlagsLine = KFlags ∷ []
kinds N.FrameLine = KConvention ∷ KNatural W32 ∷ KNatural W32 ∷ KNatural W32 ∷ KNatural W32 ∷ KNatural W32 ∷ KNatural W32 ∷ KOption W8 ∷ KNatural W16 ∷ []
kinds N.ConstantLine = KNatural W32 ∷ KBytes ∷ []
kinds N.SymbolLine = KName ∷ KNatural W64 ∷ []
kinds N.RegisterLine = KStart ∷ []
kinds N.MemoryLine = KNatural W64 ∷ KBytes ∷ []
kinds N.BlockLine = []
kinds N.EndLoopLine = []
kinds N.EndLine = []
kinds N.Loop = KCond ∷ []
kinds (N.Integer n) = (integer_row n).kinds
kinds (N.Load op) = KReg ∷ KMemory ∷ []
kinds (N.Store op) = KReg ∷ KMemory ∷ []
kinds (N.Memory n) = (memory_row n).kinds
kinds (N.Control n) = (control_row n).kinds
kinds (N.Vector n) = (vector_row n).kinds
kinds (N.Whole direction layout) = KReg ∷ KMemory ∷ []
