-- No operand and no text depends on the stack map of the state.
use Rattle.std.proofs.Common.{◌≡◌, ℕ, Option, Some, None, refl, ap}
use Rattle.s390x_inst.specs.Emission.{Emission}
use Rattle.s390x_inst.specs.declared.args.MemArg.{MemArg}
use Rattle.s390x_inst.specs.declared.args.MemArg.TheVariants.{InitialSPOffset}
use Rattle.s390x_inst.specs.Loads.{load_instruction}
use Rattle.s390x_inst.specs.Stores.{store_instruction}
use Rattle.s390x_inst.specs.declared.whole.WholeAccess.{WholeAccess}
use Rattle.s390x_inst.specs.Wholes.{as_whole, by_whole, whole_instruction}
use Rattle.s390x_inst.proofs.Transfers.{Transfer, LoadOf, StoreOf, as_transfer, by_transfer}
use Rattle.s390x_inst.specs.declared.inst.Inst.{Inst}
use Rattle.s390x_inst.specs.declared.inst.Inst.TheVariants as I
use Rattle.s390x_inst.specs.declared.vec_inst.VecInst.{VecInst}
use Rattle.s390x_inst.specs.declared.vec_inst.VecInst.TheVariants as V
use Rattle.s390x_typed_steps.specs.Operands.{resolved_operand}
use Rattle.s390x_typed_steps.specs.Resolved.{resolved_instruction, resolved_vector}

-- a state with another stack map
abbrev pub mapped : Emission → Option ℕ → Emission
mapped e map = record e { stack_map = map }

same_operand : (e : Emission) (map : Option ℕ) (m : MemArg) → resolved_operand (mapped e map) m ≡ resolved_operand e m
same_operand e map (InitialSPOffset off) = refl
same_operand e map m = refl

same_whole : (e : Emission) (map : Option ℕ) (v : VecInst) (o : Option WholeAccess) → by_whole (λ w. whole_instruction w.direction w.layout w.rd (resolved_operand (mapped e map) w.mem)) v o ≡ by_whole (λ w. whole_instruction w.direction w.layout w.rd (resolved_operand e w.mem)) v o
same_whole e map v None = refl
same_whole e map v (Some w) = ap (whole_instruction w.direction w.layout w.rd) (same_operand e map w.mem)

same_vector : (e : Emission) (map : Option ℕ) (v : VecInst) → resolved_vector (mapped e map) v ≡ resolved_vector e v
same_vector e map (V.VecLoadReplicate size rd mem) = ap (V.VecLoadReplicate size rd) (same_operand e map mem)
same_vector e map (V.VecLoadReplicateRev size rd mem) = ap (V.VecLoadReplicateRev size rd) (same_operand e map mem)
same_vector e map (V.VecLoadLane size rd ri mem lane) = ap (λ m. V.VecLoadLane size rd ri m lane) (same_operand e map mem)
same_vector e map (V.VecLoadLaneRev size rd ri mem lane) = ap (λ m. V.VecLoadLaneRev size rd ri m lane) (same_operand e map mem)
same_vector e map (V.VecLoadLaneUndef size rd mem lane) = ap (λ m. V.VecLoadLaneUndef size rd m lane) (same_operand e map mem)
same_vector e map (V.VecLoadLaneRevUndef size rd mem lane) = ap (λ m. V.VecLoadLaneRevUndef size rd m lane) (same_operand e map mem)
same_vector e map (V.VecStoreLane size rd mem lane) = ap (λ m. V.VecStoreLane size rd m lane) (same_operand e map mem)
same_vector e map (V.VecStoreLaneRev size rd mem lane) = ap (λ m. V.VecStoreLaneRev size rd m lane) (same_operand e map mem)
same_vector e map v = same_whole e map v (as_whole v)

same_transfer : (e : Emission) (map : Option ℕ) (i : Inst) (o : Option Transfer) → by_transfer (λ l. load_instruction l.op l.rd (resolved_operand (mapped e map) l.mem)) (λ s. store_instruction s.op s.rd (resolved_operand (mapped e map) s.mem)) i o ≡ by_transfer (λ l. load_instruction l.op l.rd (resolved_operand e l.mem)) (λ s. store_instruction s.op s.rd (resolved_operand e s.mem)) i o
same_transfer e map i None = refl
same_transfer e map i (Some (LoadOf l)) = ap (load_instruction l.op l.rd) (same_operand e map l.mem)
same_transfer e map i (Some (StoreOf s)) = ap (store_instruction s.op s.rd) (same_operand e map s.mem)

-- an instruction with its operand resolved is the same one whatever the stack map is
pub same_resolved : (e : Emission) (map : Option ℕ) (i : Inst) → resolved_instruction (mapped e map) i ≡ resolved_instruction e i
same_resolved e map (I.AluRX op rd ri mem) = ap (I.AluRX op rd ri) (same_operand e map mem)
same_resolved e map (I.CmpRX op rn mem) = ap (I.CmpRX op rn) (same_operand e map mem)
same_resolved e map (I.StoreImm8 imm mem) = ap (I.StoreImm8 imm) (same_operand e map mem)
same_resolved e map (I.StoreImm16 imm mem) = ap (I.StoreImm16 imm) (same_operand e map mem)
same_resolved e map (I.StoreImm32SExt16 imm mem) = ap (I.StoreImm32SExt16 imm) (same_operand e map mem)
same_resolved e map (I.StoreImm64SExt16 imm mem) = ap (I.StoreImm64SExt16 imm) (same_operand e map mem)
same_resolved e map (I.LoadMultiple64 rt rt2 mem) = ap (I.LoadMultiple64 rt rt2) (same_operand e map mem)
same_resolved e map (I.StoreMultiple64 rt rt2 mem) = ap (I.StoreMultiple64 rt rt2) (same_operand e map mem)
same_resolved e map (I.LoadAddr rd mem) = ap (I.LoadAddr rd) (same_operand e map mem)
same_resolved e map (I.AtomicRmw op rd rn mem) = ap (I.AtomicRmw op rd rn) (same_operand e map mem)
same_resolved e map (I.AtomicCas32 rd ri rn mem) = ap (I.AtomicCas32 rd ri rn) (same_operand e map mem)
same_resolved e map (I.AtomicCas64 rd ri rn mem) = ap (I.AtomicCas64 rd ri rn) (same_operand e map mem)
same_resolved e map (I.Vector v) = ap I.Vector (same_vector e map v)
same_resolved e map i = same_transfer e map i (as_transfer i)
