-- The operand that the checker of a plan looks at is that of the typed step: an instruction whose rows take cases owes a line.
use Rattle.std.proofs.Common.{ℕ, Bool, true, false, Option, Some, None, refl, cond}
use Rattle.std.specs.Prelude.{◌||◌, is_some}
use Rattle.s390x_base.specs.Regs.{number_of}
use Rattle.s390x_base.specs.declared.regs.Reg.{Reg}
use Rattle.s390x_inst.specs.Loads.{as_load, by_load}
use Rattle.s390x_inst.specs.declared.args.MemArg.{MemArg}
use Rattle.s390x_inst.specs.declared.inst.Inst.{Inst}
use Rattle.s390x_inst.specs.declared.inst.Inst.TheVariants as I
use Rattle.s390x_inst.specs.declared.load.Load.{Load}
use Rattle.s390x_inst.specs.declared.vec_inst.VecInst.{VecInst}
use Rattle.s390x_inst.specs.declared.vec_inst.VecInst.TheVariants as V
use Rattle.s390x_rows.specs.declared.opcodes.TheConstants as opcodes
use Rattle.s390x_typed_steps.specs.Memory.{MemoryInstruction, StorageForm, VrxForm, left_or_lane, operate, load_and_operate, access_elements, access_lane, access_vector, load_lane_opcode, load_left, load_memory, load_reversed_opcode, is_left_lane, other_memory, reversed_code, store_lane_opcode, store_left, store_reversed_opcode}
use Rattle.s390x_typed_steps.specs.Memory.{vector_memory as step_vector}
use Rattle.s390x_typed_steps.specs.Storage.{alu_rx, alu_rxy, atomic_rsy}
use Rattle.s390x_typed_steps.specs.VectorInstruction.{element_code, is_lane, is_vector, reuses_vector}
use Rattle.s390x_alloc.specs.Shape.{other_operand, vector_memory}
use Rattle.s390x_alloc_laws.specs.Accesses.{IsOperandOf, OperandsAreSeen}

either_seen : (b : Bool) (x y : Option MemoryInstruction) (seen : Option MemArg) → IsOperandOf x seen → IsOperandOf y seen → IsOperandOf (cond b x y) seen
either_seen true x y seen p q = p
either_seen false x y seen p q = q

operate_seen : (row : Bool) (rx rxy : Option ℕ) (rd ri : Reg) (mem : MemArg) → IsOperandOf (operate row rx rxy rd ri mem) (Some mem)
operate_seen true rx rxy rd ri mem = refl
operate_seen false rx rxy rd ri mem = tt

change_seen : (row : Option ℕ) (rd rn : Reg) (mem : MemArg) → IsOperandOf (load_and_operate row rd rn mem) (Some mem)
change_seen None rd rn mem = tt
change_seen (Some opcode) rd rn mem = refl

elements_seen : (opcode : ℕ) (rd : Reg) (code : Option ℕ) (mem : MemArg) → IsOperandOf (access_elements opcode rd code mem) (Some mem)
elements_seen opcode rd None mem = tt
elements_seen opcode rd (Some code) mem = refl

lane_seen : (valid : Bool) (opcode : ℕ → ℕ) (register : ℕ) (code : Option ℕ) (size lane : ℕ) (mem : MemArg) → IsOperandOf (access_lane valid opcode register code size lane mem) (Some mem)
lane_seen valid opcode register None size lane mem = tt
lane_seen valid opcode register (Some code) size lane mem = either_seen (is_lane size lane) (access_vector valid (VrxForm register (opcode code) lane) mem) None (Some mem) refl tt

left_seen : (left : (size register : ℕ) → StorageForm) (opcode : ℕ → ℕ) (size lane : ℕ) (rd : Reg) (mem : MemArg) → IsOperandOf (left_or_lane left opcode size lane rd mem) (Some mem)
left_seen left opcode size lane rd mem =
    either_seen (is_left_lane size lane (number_of rd)) (access_vector (is_vector rd) (left size (number_of rd)) mem) (access_lane (is_vector rd) opcode (number_of rd) (element_code size) size lane mem) (Some mem) refl
    (lane_seen (is_vector rd) opcode (number_of rd) (element_code size) size lane mem)

-- the last clause of each is a copy for each other instruction
vector_seen : (v : VecInst) → IsOperandOf (step_vector v) (vector_memory v)
vector_seen (V.VecLoadReplicate size rd mem) = elements_seen opcodes.VLREP rd (element_code size) mem
vector_seen (V.VecLoadReplicateRev size rd mem) = elements_seen opcodes.VLBRREP rd (reversed_code size) mem
vector_seen (V.VecLoadLane size rd ri mem lane) = lane_seen (reuses_vector rd ri) load_lane_opcode (number_of rd) (element_code size) size lane mem
vector_seen (V.VecLoadLaneRev size rd ri mem lane) = lane_seen (reuses_vector rd ri) load_reversed_opcode (number_of rd) (reversed_code size) size lane mem
vector_seen (V.VecLoadLaneUndef size rd mem lane) = left_seen load_left load_lane_opcode size lane rd mem
vector_seen (V.VecLoadLaneRevUndef size rd mem lane) = lane_seen (is_vector rd) load_reversed_opcode (number_of rd) (reversed_code size) size lane mem
vector_seen (V.VecStoreLane size rd mem lane) = left_seen store_left store_lane_opcode size lane rd mem
vector_seen (V.VecStoreLaneRev size rd mem lane) = lane_seen (is_vector rd) store_reversed_opcode (number_of rd) (reversed_code size) size lane mem
vector_seen v = assumption

other_seen : (i : Inst) → IsOperandOf (other_memory i) (other_operand i)
other_seen (I.AluRX op rd ri mem) = operate_seen (is_some (alu_rx op) || is_some (alu_rxy op)) (alu_rx op) (alu_rxy op) rd ri mem
other_seen (I.AtomicRmw op rd rn mem) = change_seen (atomic_rsy op) rd rn mem
other_seen (I.Vector v) = vector_seen v
other_seen i = assumption

loaded_or : (i : Inst) (o : Option Load) → IsOperandOf (other_memory i) (other_operand i) → IsOperandOf (by_load load_memory (other_memory i) o) (by_load (λ (l : Load). Some l.mem) (other_operand i) o)
loaded_or i None h = h
loaded_or i (Some l) h = refl

pub operands_seen : OperandsAreSeen
operands_seen i = loaded_or i (as_load i) (other_seen i)
