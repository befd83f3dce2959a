-- The roles of each instruction's registers, and the instruction with others in their place. Roles stand in the order in which operands are reported:
-- that of the fields, but for products and divisions, whose inputs come before the pair that is written.
use Rattle.std.specs.Prelude.{[], ◌∷◌, Option, Some, None}
use Rattle.s390x_inst.specs.declared.inst.Inst.{Inst}
use Rattle.s390x_inst.specs.declared.inst.Inst.TheVariants as I
use Rattle.s390x_inst.specs.declared.vec_inst.VecInst.{VecInst}
use Rattle.s390x_inst.specs.declared.vec_inst.VecInst.TheVariants as V
use Rattle.s390x_inst.specs.declared.whole.WholeAccess.{WholeAccess}
use Rattle.s390x_inst.specs.Loads.{as_load, by_load, load_instruction}
use Rattle.s390x_inst.specs.Stores.{as_store, by_store, store_instruction}
use Rattle.s390x_inst.specs.Wholes.{as_whole, by_whole, by_direction, whole_instruction}
use Rattle.s390x_described.specs.Roles.{Written, Tied, Read, WrittenPair, LowRead, ReadPair, register, written_pair, read_pair, first, second, third, Described, of_none, of_one, of_two, of_three, of_four, of_memory, of_one_and_memory, of_two_and_memory, of_three_and_memory}

-- an instruction on vector or float registers and immediates
abbrev pub described_register_vector : VecInst → Described VecInst
described_register_vector (V.VecRRR op rd rn rm) = of_three (V.VecRRR op) (Written rd) (Read rn) (Read rm)
described_register_vector (V.VecRR op rd rn) = of_two (V.VecRR op) (Written rd) (Read rn)
described_register_vector (V.VecShiftRR shift_op rd rn shift_imm shift_reg) = of_three (λ rd rn shift_reg. V.VecShiftRR shift_op rd rn shift_imm shift_reg) (Written rd) (Read rn) (Read shift_reg)
described_register_vector (V.VecSelect rd rn rm ra) = of_four V.VecSelect (Written rd) (Read rn) (Read rm) (Read ra)
described_register_vector (V.VecPermute rd rn rm ra) = of_four V.VecPermute (Written rd) (Read rn) (Read rm) (Read ra)
described_register_vector (V.VecBlend rd rn rm ra) = of_four V.VecBlend (Written rd) (Read rn) (Read rm) (Read ra)
described_register_vector (V.VecEvaluate imm rd rn rm ra) = of_four (V.VecEvaluate imm) (Written rd) (Read rn) (Read rm) (Read ra)
described_register_vector (V.VecPermuteDWImm rd rn rm idx1 idx2) = of_three (λ rd rn rm. V.VecPermuteDWImm rd rn rm idx1 idx2) (Written rd) (Read rn) (Read rm)
described_register_vector (V.VecIntCmp op rd rn rm) = of_three (V.VecIntCmp op) (Written rd) (Read rn) (Read rm)
described_register_vector (V.VecIntCmpS op rd rn rm) = of_three (V.VecIntCmpS op) (Written rd) (Read rn) (Read rm)
described_register_vector (V.VecIntEltCmp op rn rm) = of_two (V.VecIntEltCmp op) (Read rn) (Read rm)
described_register_vector (V.VecInt128SCmpHi tmp rn rm) = of_three V.VecInt128SCmpHi (Written tmp) (Read rn) (Read rm)
described_register_vector (V.VecInt128UCmpHi tmp rn rm) = of_three V.VecInt128UCmpHi (Written tmp) (Read rn) (Read rm)
described_register_vector (V.VecMov rd rn) = of_two V.VecMov (Written rd) (Read rn)
described_register_vector (V.FpuMove32 rd rn) = of_two V.FpuMove32 (Written rd) (Read rn)
described_register_vector (V.FpuMove64 rd rn) = of_two V.FpuMove64 (Written rd) (Read rn)
described_register_vector (V.FpuCMov32 rd cond ri rm) = of_three (λ rd ri rm. V.FpuCMov32 rd cond ri rm) (Tied rd) (Read ri) (Read rm)
described_register_vector (V.FpuCMov64 rd cond ri rm) = of_three (λ rd ri rm. V.FpuCMov64 rd cond ri rm) (Tied rd) (Read ri) (Read rm)
described_register_vector (V.VecCMov rd cond ri rm) = of_three (λ rd ri rm. V.VecCMov rd cond ri rm) (Tied rd) (Read ri) (Read rm)
described_register_vector (V.MovToVec128 rd rn rm) = of_three V.MovToVec128 (Written rd) (Read rn) (Read rm)
described_register_vector (V.VecImmByteMask rd mask) = of_one (λ rd. V.VecImmByteMask rd mask) (Written rd)
described_register_vector (V.VecImmBitMask size rd start_bit end_bit) = of_one (λ rd. V.VecImmBitMask size rd start_bit end_bit) (Written rd)
described_register_vector (V.VecImmReplicate size rd imm) = of_one (λ rd. V.VecImmReplicate size rd imm) (Written rd)
described_register_vector (V.VecInsertLane size rd ri rn lane_imm lane_reg) = of_four (λ rd ri rn lane_reg. V.VecInsertLane size rd ri rn lane_imm lane_reg) (Tied rd) (Read ri) (Read rn) (Read lane_reg)
described_register_vector (V.VecInsertLaneUndef size rd rn lane_imm lane_reg) = of_three (λ rd rn lane_reg. V.VecInsertLaneUndef size rd rn lane_imm lane_reg) (Written rd) (Read rn) (Read lane_reg)
described_register_vector (V.VecExtractLane size rd rn lane_imm lane_reg) = of_three (λ rd rn lane_reg. V.VecExtractLane size rd rn lane_imm lane_reg) (Written rd) (Read rn) (Read lane_reg)
described_register_vector (V.VecInsertLaneImm size rd ri imm lane_imm) = of_two (λ rd ri. V.VecInsertLaneImm size rd ri imm lane_imm) (Tied rd) (Read ri)
described_register_vector (V.VecInsertLaneImmUndef size rd imm lane_imm) = of_one (λ rd. V.VecInsertLaneImmUndef size rd imm lane_imm) (Written rd)
described_register_vector (V.VecReplicateLane size rd rn lane_imm) = of_two (λ rd rn. V.VecReplicateLane size rd rn lane_imm) (Written rd) (Read rn)
described_register_vector (V.VecEltRev lane_count rd rn) = of_two (V.VecEltRev lane_count) (Written rd) (Read rn)
described_register_vector v = of_none v

-- a load or a store of an element, or one of these
abbrev pub described_part : VecInst → Described VecInst
described_part (V.VecLoadReplicate size rd mem) = of_one_and_memory (V.VecLoadReplicate size) (Written rd) mem
described_part (V.VecLoadReplicateRev size rd mem) = of_one_and_memory (V.VecLoadReplicateRev size) (Written rd) mem
described_part (V.VecLoadLane size rd ri mem lane_imm) = of_two_and_memory (λ rd ri mem. V.VecLoadLane size rd ri mem lane_imm) (Tied rd) (Read ri) mem
described_part (V.VecLoadLaneRev size rd ri mem lane_imm) = of_two_and_memory (λ rd ri mem. V.VecLoadLaneRev size rd ri mem lane_imm) (Tied rd) (Read ri) mem
described_part (V.VecLoadLaneUndef size rd mem lane_imm) = of_one_and_memory (λ rd mem. V.VecLoadLaneUndef size rd mem lane_imm) (Written rd) mem
described_part (V.VecLoadLaneRevUndef size rd mem lane_imm) = of_one_and_memory (λ rd mem. V.VecLoadLaneRevUndef size rd mem lane_imm) (Written rd) mem
described_part (V.VecStoreLane size rd mem lane_imm) = of_one_and_memory (λ rd mem. V.VecStoreLane size rd mem lane_imm) (Read rd) mem
described_part (V.VecStoreLaneRev size rd mem lane_imm) = of_one_and_memory (λ rd mem. V.VecStoreLaneRev size rd mem lane_imm) (Read rd) mem
described_part v = described_register_vector v

-- a load or a store of a whole vector register
abbrev pub described_whole : WholeAccess → Described VecInst
described_whole w = of_one_and_memory (whole_instruction w.direction w.layout) (by_direction w.direction (Written w.rd) (Read w.rd)) w.mem

-- a load or a store of a whole vector register, or one of these
abbrev pub described_vector : VecInst → Described VecInst
described_vector v = by_whole described_whole (described_part v) (as_whole v)

-- an instruction on vector or float registers, as the `Inst` that holds it
abbrev pub as_vector : Described VecInst → Described Inst
as_vector d = record { roles = d.roles; again = λ xs. I.Vector (d.again xs) }

-- nothing for an instruction that has no register, or lists or members
abbrev pub described_wide : Inst → Option (Described Inst)
described_wide (I.Vector v) = Some (as_vector (described_vector v))
described_wide i = None

-- addresses that the linker fills in or that are labels, and a use that has no code
abbrev pub described_control : Inst → Option (Described Inst)
described_control (I.LoadSymbolReloc rd symbol_reloc) = Some (of_one (λ rd. I.LoadSymbolReloc rd symbol_reloc) (Written rd))
described_control (I.LabelAddress dst label) = Some (of_one (λ dst. I.LabelAddress dst label) (Written dst))
described_control (I.DummyUse reg) = Some (of_one I.DummyUse (Read reg))
described_control i = described_wide i

-- stores of numbers, multiples, addresses and atomic instructions
abbrev pub described_rest : Inst → Option (Described Inst)
described_rest (I.StoreImm8 imm mem) = Some (of_memory (I.StoreImm8 imm) mem)
described_rest (I.StoreImm16 imm mem) = Some (of_memory (I.StoreImm16 imm) mem)
described_rest (I.StoreImm32SExt16 imm mem) = Some (of_memory (I.StoreImm32SExt16 imm) mem)
described_rest (I.StoreImm64SExt16 imm mem) = Some (of_memory (I.StoreImm64SExt16 imm) mem)
described_rest (I.LoadMultiple64 rt rt2 mem) = Some (of_memory (I.LoadMultiple64 rt rt2) mem)
described_rest (I.StoreMultiple64 rt rt2 mem) = Some (of_memory (I.StoreMultiple64 rt rt2) mem)
described_rest (I.LoadAddr rd mem) = Some (of_one_and_memory I.LoadAddr (Written rd) mem)
described_rest (I.LoadIndexedAddr rd base index offset size) = Some (of_three (λ rd base index. I.LoadIndexedAddr rd base index offset size) (Written rd) (Read base) (Read index))
described_rest (I.LoadLogicalIndexedAddr rd base index offset size) = Some (of_three (λ rd base index. I.LoadLogicalIndexedAddr rd base index offset size) (Written rd) (Read base) (Read index))
described_rest (I.AtomicRmw alu_op rd rn mem) = Some (of_two_and_memory (I.AtomicRmw alu_op) (Written rd) (Read rn) mem)
described_rest (I.AtomicCas32 rd ri rn mem) = Some (of_three_and_memory I.AtomicCas32 (Tied rd) (Read ri) (Read rn) mem)
described_rest (I.AtomicCas64 rd ri rn mem) = Some (of_three_and_memory I.AtomicCas64 (Tied rd) (Read ri) (Read rn) mem)
described_rest i = described_control i

-- stores of one register
abbrev pub described_store : Inst → Option (Described Inst)
described_store i = by_store (λ t. Some (of_one_and_memory (store_instruction t.op) (Read t.rd) t.mem)) (described_rest i) (as_store i)

-- loads of one register
abbrev pub described_storage : Inst → Option (Described Inst)
described_storage i = by_load (λ l. Some (of_one_and_memory (load_instruction l.op) (Written l.rd) l.mem)) (described_store i) (as_load i)

-- moves between registers, and immediates
abbrev pub described_move : Inst → Option (Described Inst)
described_move (I.Mov64 rd rm) = Some (of_two I.Mov64 (Written rd) (Read rm))
described_move (I.MovPReg rd rm) = Some (of_one (λ rd. I.MovPReg rd rm) (Written rd))
described_move (I.Mov32 rd rm) = Some (of_two I.Mov32 (Written rd) (Read rm))
described_move (I.Mov32Imm rd imm) = Some (of_one (λ rd. I.Mov32Imm rd imm) (Written rd))
described_move (I.Mov32SImm16 rd imm) = Some (of_one (λ rd. I.Mov32SImm16 rd imm) (Written rd))
described_move (I.Mov64SImm16 rd imm) = Some (of_one (λ rd. I.Mov64SImm16 rd imm) (Written rd))
described_move (I.Mov64SImm32 rd imm) = Some (of_one (λ rd. I.Mov64SImm32 rd imm) (Written rd))
described_move (I.Mov64UImm16Shifted rd imm) = Some (of_one (λ rd. I.Mov64UImm16Shifted rd imm) (Written rd))
described_move (I.Mov64UImm32Shifted rd imm) = Some (of_one (λ rd. I.Mov64UImm32Shifted rd imm) (Written rd))
described_move (I.Insert64UImm16Shifted rd ri imm) = Some (of_two (λ rd ri. I.Insert64UImm16Shifted rd ri imm) (Tied rd) (Read ri))
described_move (I.Insert64UImm32Shifted rd ri imm) = Some (of_two (λ rd ri. I.Insert64UImm32Shifted rd ri imm) (Tied rd) (Read ri))
described_move (I.CMov32 rd cond ri rm) = Some (of_three (λ rd ri rm. I.CMov32 rd cond ri rm) (Tied rd) (Read ri) (Read rm))
described_move (I.CMov64 rd cond ri rm) = Some (of_three (λ rd ri rm. I.CMov64 rd cond ri rm) (Tied rd) (Read ri) (Read rm))
described_move (I.CMov32SImm16 rd cond ri imm) = Some (of_two (λ rd ri. I.CMov32SImm16 rd cond ri imm) (Tied rd) (Read ri))
described_move (I.CMov64SImm16 rd cond ri imm) = Some (of_two (λ rd ri. I.CMov64SImm16 rd cond ri imm) (Tied rd) (Read ri))
described_move (I.Extend rd rn signed from_bits to_bits) = Some (of_two (λ rd rn. I.Extend rd rn signed from_bits to_bits) (Written rd) (Read rn))
described_move (I.LoadAR rd ar) = Some (of_one (λ rd. I.LoadAR rd ar) (Written rd))
described_move (I.InsertAR rd ri ar) = Some (of_two (λ rd ri. I.InsertAR rd ri ar) (Tied rd) (Read ri))
described_move i = described_storage i

-- operators, products, divisions, shifts, rotations and comparisons
abbrev pub description_of : Inst → Option (Described Inst)
description_of (I.AluRRR alu_op rd rn rm) = Some (of_three (I.AluRRR alu_op) (Written rd) (Read rn) (Read rm))
description_of (I.AluRRSImm16 alu_op rd rn imm) = Some (of_two (λ rd rn. I.AluRRSImm16 alu_op rd rn imm) (Written rd) (Read rn))
description_of (I.AluRR alu_op rd ri rm) = Some (of_three (I.AluRR alu_op) (Tied rd) (Read ri) (Read rm))
description_of (I.AluRX alu_op rd ri mem) = Some (of_two_and_memory (I.AluRX alu_op) (Tied rd) (Read ri) mem)
description_of (I.AluRSImm16 alu_op rd ri imm) = Some (of_two (λ rd ri. I.AluRSImm16 alu_op rd ri imm) (Tied rd) (Read ri))
description_of (I.AluRSImm32 alu_op rd ri imm) = Some (of_two (λ rd ri. I.AluRSImm32 alu_op rd ri imm) (Tied rd) (Read ri))
description_of (I.AluRUImm32 alu_op rd ri imm) = Some (of_two (λ rd ri. I.AluRUImm32 alu_op rd ri imm) (Tied rd) (Read ri))
description_of (I.AluRUImm16Shifted alu_op rd ri imm) = Some (of_two (λ rd ri. I.AluRUImm16Shifted alu_op rd ri imm) (Tied rd) (Read ri))
description_of (I.AluRUImm32Shifted alu_op rd ri imm) = Some (of_two (λ rd ri. I.AluRUImm32Shifted alu_op rd ri imm) (Tied rd) (Read ri))
description_of (I.SMulWide rd rn rm) = Some (record { roles = Read rn ∷ Read rm ∷ WrittenPair rd ∷ []; again = λ xs. I.SMulWide (written_pair (third xs)) (register (first xs)) (register (second xs)) })
description_of (I.UMulWide rd ri rn) = Some (record { roles = Read rn ∷ WrittenPair rd ∷ LowRead ri ∷ []; again = λ xs. I.UMulWide (written_pair (second xs)) (register (third xs)) (register (first xs)) })
description_of (I.SDivMod32 rd ri rn) = Some (record { roles = Read rn ∷ WrittenPair rd ∷ LowRead ri ∷ []; again = λ xs. I.SDivMod32 (written_pair (second xs)) (register (third xs)) (register (first xs)) })
description_of (I.SDivMod64 rd ri rn) = Some (record { roles = Read rn ∷ WrittenPair rd ∷ LowRead ri ∷ []; again = λ xs. I.SDivMod64 (written_pair (second xs)) (register (third xs)) (register (first xs)) })
description_of (I.UDivMod32 rd ri rn) = Some (record { roles = Read rn ∷ WrittenPair rd ∷ ReadPair ri ∷ []; again = λ xs. I.UDivMod32 (written_pair (second xs)) (read_pair (third xs)) (register (first xs)) })
description_of (I.UDivMod64 rd ri rn) = Some (record { roles = Read rn ∷ WrittenPair rd ∷ ReadPair ri ∷ []; again = λ xs. I.UDivMod64 (written_pair (second xs)) (read_pair (third xs)) (register (first xs)) })
description_of (I.Flogr rd rn) = Some (record { roles = Read rn ∷ WrittenPair rd ∷ []; again = λ xs. I.Flogr (written_pair (second xs)) (register (first xs)) })
description_of (I.ShiftRR shift_op rd rn shift_imm shift_reg) = Some (of_three (λ rd rn shift_reg. I.ShiftRR shift_op rd rn shift_imm shift_reg) (Written rd) (Read rn) (Read shift_reg))
description_of (I.RxSBG op rd ri rn start_bit end_bit rotate_amt) = Some (of_three (λ rd ri rn. I.RxSBG op rd ri rn start_bit end_bit rotate_amt) (Tied rd) (Read ri) (Read rn))
description_of (I.RxSBGTest op rd rn start_bit end_bit rotate_amt) = Some (of_two (λ rd rn. I.RxSBGTest op rd rn start_bit end_bit rotate_amt) (Read rd) (Read rn))
description_of (I.UnaryRR op rd rn) = Some (of_two (I.UnaryRR op) (Written rd) (Read rn))
description_of (I.CmpRR op rn rm) = Some (of_two (I.CmpRR op) (Read rn) (Read rm))
description_of (I.CmpRX op rn mem) = Some (of_one_and_memory (I.CmpRX op) (Read rn) mem)
description_of (I.CmpRSImm16 op rn imm) = Some (of_one (λ rn. I.CmpRSImm16 op rn imm) (Read rn))
description_of (I.CmpRSImm32 op rn imm) = Some (of_one (λ rn. I.CmpRSImm32 op rn imm) (Read rn))
description_of (I.CmpRUImm32 op rn imm) = Some (of_one (λ rn. I.CmpRUImm32 op rn imm) (Read rn))
description_of (I.CmpTrapRR op rn rm cond trap_code) = Some (of_two (λ rn rm. I.CmpTrapRR op rn rm cond trap_code) (Read rn) (Read rm))
description_of (I.CmpTrapRSImm16 op rn imm cond trap_code) = Some (of_one (λ rn. I.CmpTrapRSImm16 op rn imm cond trap_code) (Read rn))
description_of (I.CmpTrapRUImm16 op rn imm cond trap_code) = Some (of_one (λ rn. I.CmpTrapRUImm16 op rn imm cond trap_code) (Read rn))
description_of i = described_move i
