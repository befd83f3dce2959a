-- A vector instruction and the same without a frame operand.
use Rattle.std.proofs.Common.{◌≡◌, ℕ, Bool, true, false, cond, Option, Some, None, refl}
use Rattle.std.specs.Option.{option_map}
use Rattle.s390x_base.specs.declared.regs.Reg.{Reg}
use Rattle.s390x_base.specs.Regs.{number_of}
use Rattle.s390x_inst.specs.Emission.{Emission}
use Rattle.s390x_inst.specs.Facilities.{vec_facility}
use Rattle.s390x_inst.specs.declared.args.MemArg.{MemArg}
use Rattle.s390x_inst.specs.declared.vec_inst.VecInst.{VecInst}
use Rattle.s390x_inst.specs.declared.vec_inst.VecInst.TheVariants as V
use Rattle.s390x_rows.specs.declared.opcodes.TheConstants as opcodes
use Rattle.s390x_typed_steps.specs.Memory.{MemoryInstruction, StorageForm, access_vector, access_elements, access_lane, reversed_code, is_left_lane, load_left, store_left, load_lane_opcode, store_lane_opcode, load_reversed_opcode, store_reversed_opcode, vector_memory}
use Rattle.s390x_typed_steps.specs.Operands.{resolved_operand}
use Rattle.s390x_typed_steps.specs.Resolved.{resolved_vector}
use Rattle.s390x_typed_steps.specs.SingleInstruction.{single_with}
use Rattle.s390x_typed_steps.specs.VectorComposite.{composite_cause, composite_rows}
use Rattle.s390x_typed_steps.specs.VectorInstruction.{element_code, is_lane, is_vector, reuses_vector, vector_operands_valid, vector_row, vector_stop}
use Rattle.s390x_address.specs.Rows.{in_state}

pub vector_single : (e : Emission) (v : VecInst) → single_with (vector_operands_valid (resolved_vector e v)) (vector_row (resolved_vector e v)) ≡ single_with (vector_operands_valid v) (vector_row v)
vector_single e (V.VecSelect rd rn rm ra) = refl
vector_single e v = refl

pub vector_stops : (e : Emission) (v : VecInst) → vector_stop (resolved_vector e v) ≡ vector_stop v
vector_stops e (V.VecSelect rd rn rm ra) = refl
vector_stops e v = refl

pub vector_facilities : (e : Emission) (v : VecInst) → vec_facility (resolved_vector e v) ≡ vec_facility v
vector_facilities e (V.VecSelect rd rn rm ra) = refl
vector_facilities e v = refl

pub composite_causes : (e : Emission) (v : VecInst) → composite_cause (resolved_vector e v) ≡ composite_cause v
composite_causes e (V.VecSelect rd rn rm ra) = refl
composite_causes e v = refl

pub composites : (e : Emission) (v : VecInst) → composite_rows (resolved_vector e v) ≡ composite_rows v
composites e (V.VecSelect rd rn rm ra) = refl
composites e v = refl

-- ---- an operand

elements_resolved : (e : Emission) (opcode : ℕ) (rd : Reg) (code : Option ℕ) (mem : MemArg) → access_elements opcode rd code (resolved_operand e mem) ≡ option_map (in_state e) (access_elements opcode rd code mem)
elements_resolved e opcode rd None mem = refl
elements_resolved e opcode rd (Some code) mem = refl

either_resolved : (e : Emission) (t : Bool) (x y a b : Option MemoryInstruction) → x ≡ option_map (in_state e) a → y ≡ option_map (in_state e) b → cond t x y ≡ option_map (in_state e) (cond t a b)
either_resolved e true x y a b h k = h
either_resolved e false x y a b h k = k

lane_resolved : (e : Emission) (valid : Bool) (opcode : ℕ → ℕ) (register : ℕ) (code : Option ℕ) (size lane : ℕ) (mem : MemArg) → access_lane valid opcode register code size lane (resolved_operand e mem) ≡ option_map (in_state e) (access_lane valid opcode register code size lane mem)
lane_resolved e valid opcode register None size lane mem = refl
lane_resolved e valid opcode register (Some code) size lane mem = either_resolved e (is_lane size lane) _ _ _ _ refl refl

left_resolved : (e : Emission) (t valid : Bool) (form : StorageForm) (opcode : ℕ → ℕ) (register : ℕ) (code : Option ℕ) (size lane : ℕ) (mem : MemArg) →
    cond t (access_vector valid form (resolved_operand e mem)) (access_lane valid opcode register code size lane (resolved_operand e mem)) ≡ option_map (in_state e) (cond t (access_vector valid form mem) (access_lane valid opcode register code size lane mem))
left_resolved e t valid form opcode register code size lane mem = either_resolved e t _ _ _ _ refl (lane_resolved e valid opcode register code size lane mem)

pub vector_memories : (e : Emission) (v : VecInst) → vector_memory (resolved_vector e v) ≡ option_map (in_state e) (vector_memory v)
vector_memories e (V.VecLoadReplicate size rd mem) = elements_resolved e opcodes.VLREP rd (element_code size) mem
vector_memories e (V.VecLoadReplicateRev size rd mem) = elements_resolved e opcodes.VLBRREP rd (reversed_code size) mem
vector_memories e (V.VecLoadLane size rd ri mem lane) = lane_resolved e (reuses_vector rd ri) load_lane_opcode (number_of rd) (element_code size) size lane mem
vector_memories e (V.VecLoadLaneRev size rd ri mem lane) = lane_resolved e (reuses_vector rd ri) load_reversed_opcode (number_of rd) (reversed_code size) size lane mem
vector_memories e (V.VecLoadLaneUndef size rd mem lane) = left_resolved e (is_left_lane size lane (number_of rd)) (is_vector rd) (load_left size (number_of rd)) load_lane_opcode (number_of rd) (element_code size) size lane mem
vector_memories e (V.VecLoadLaneRevUndef size rd mem lane) = lane_resolved e (is_vector rd) load_reversed_opcode (number_of rd) (reversed_code size) size lane mem
vector_memories e (V.VecStoreLane size rd mem lane) = left_resolved e (is_left_lane size lane (number_of rd)) (is_vector rd) (store_left size (number_of rd)) store_lane_opcode (number_of rd) (element_code size) size lane mem
vector_memories e (V.VecStoreLaneRev size rd mem lane) = lane_resolved e (is_vector rd) store_reversed_opcode (number_of rd) (reversed_code size) size lane mem
vector_memories e v = refl
