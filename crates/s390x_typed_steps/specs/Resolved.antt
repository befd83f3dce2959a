-- Instructions without frame operands: each is an exact offset from the stack pointer.
use Rattle.s390x_inst.specs.Emission.{Emission}
use Rattle.s390x_inst.specs.declared.inst.Inst.{Inst}
use Rattle.s390x_inst.specs.declared.inst.Inst.TheVariants as I
use Rattle.s390x_inst.specs.Loads.{as_load, by_load, load_instruction}
use Rattle.s390x_inst.specs.Stores.{as_store, by_store, store_instruction}
use Rattle.s390x_inst.specs.Wholes.{as_whole, by_whole, whole_instruction}
use Rattle.s390x_inst.specs.declared.vec_inst.VecInst.{VecInst}
use Rattle.s390x_inst.specs.declared.vec_inst.VecInst.TheVariants as V
use Rattle.s390x_typed_steps.specs.Operands.{resolved_operand}

-- a load or a store of elements with its operand resolved
abbrev pub resolved_part : Emission → VecInst → VecInst
resolved_part e (V.VecLoadReplicate size rd mem) = V.VecLoadReplicate size rd (resolved_operand e mem)
resolved_part e (V.VecLoadReplicateRev size rd mem) = V.VecLoadReplicateRev size rd (resolved_operand e mem)
resolved_part e (V.VecLoadLane size rd ri mem lane) = V.VecLoadLane size rd ri (resolved_operand e mem) lane
resolved_part e (V.VecLoadLaneRev size rd ri mem lane) = V.VecLoadLaneRev size rd ri (resolved_operand e mem) lane
resolved_part e (V.VecLoadLaneUndef size rd mem lane) = V.VecLoadLaneUndef size rd (resolved_operand e mem) lane
resolved_part e (V.VecLoadLaneRevUndef size rd mem lane) = V.VecLoadLaneRevUndef size rd (resolved_operand e mem) lane
resolved_part e (V.VecStoreLane size rd mem lane) = V.VecStoreLane size rd (resolved_operand e mem) lane
resolved_part e (V.VecStoreLaneRev size rd mem lane) = V.VecStoreLaneRev size rd (resolved_operand e mem) lane
resolved_part e v = v

-- an instruction on vectors with its operand resolved
abbrev pub resolved_vector : Emission → VecInst → VecInst
resolved_vector e v = by_whole (λ w. whole_instruction w.direction w.layout w.rd (resolved_operand e w.mem)) (resolved_part e v) (as_whole v)

-- an instruction that is neither a load nor a store of one register, with its operand resolved
abbrev pub resolved_rest : Emission → Inst → Inst
resolved_rest e (I.AluRX op rd ri mem) = I.AluRX op rd ri (resolved_operand e mem)
resolved_rest e (I.CmpRX op rn mem) = I.CmpRX op rn (resolved_operand e mem)
resolved_rest e (I.StoreImm8 imm mem) = I.StoreImm8 imm (resolved_operand e mem)
resolved_rest e (I.StoreImm16 imm mem) = I.StoreImm16 imm (resolved_operand e mem)
resolved_rest e (I.StoreImm32SExt16 imm mem) = I.StoreImm32SExt16 imm (resolved_operand e mem)
resolved_rest e (I.StoreImm64SExt16 imm mem) = I.StoreImm64SExt16 imm (resolved_operand e mem)
resolved_rest e (I.LoadMultiple64 rt rt2 mem) = I.LoadMultiple64 rt rt2 (resolved_operand e mem)
resolved_rest e (I.StoreMultiple64 rt rt2 mem) = I.StoreMultiple64 rt rt2 (resolved_operand e mem)
resolved_rest e (I.LoadAddr rd mem) = I.LoadAddr rd (resolved_operand e mem)
resolved_rest e (I.AtomicRmw op rd rn mem) = I.AtomicRmw op rd rn (resolved_operand e mem)
resolved_rest e (I.AtomicCas32 rd ri rn mem) = I.AtomicCas32 rd ri rn (resolved_operand e mem)
resolved_rest e (I.AtomicCas64 rd ri rn mem) = I.AtomicCas64 rd ri rn (resolved_operand e mem)
resolved_rest e (I.Vector v) = I.Vector (resolved_vector e v)
resolved_rest e i = i

-- an instruction that is no load of one register, with its operand resolved
abbrev pub resolved_other : Emission → Inst → Inst
resolved_other e i = by_store (λ s. store_instruction s.op s.rd (resolved_operand e s.mem)) (resolved_rest e i) (as_store i)

-- an instruction with its operand resolved; one without a memory operand stays
abbrev pub resolved_instruction : Emission → Inst → Inst
resolved_instruction e i = by_load (λ l. load_instruction l.op l.rd (resolved_operand e l.mem)) (resolved_other e i) (as_load i)
