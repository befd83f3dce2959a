-- Which accesses have no row relative to the instruction: all but comparisons, and loads and stores of one general register.
use Rattle.std.proofs.Common.{◌≡◌, ℕ, Bool, Option, Some, None, true, false, cond, ◌||◌, is_some, option_map, refl, ap, ◌∙◌}
use Rattle.std.specs.Prelude.{nat_eq}
use Rattle.s390x_base.specs.Regs.{number_of}
use Rattle.s390x_base.specs.declared.regs.Reg.{Reg}
use Rattle.s390x_inst.specs.declared.args.MemArg.{MemArg}
use Rattle.s390x_inst.specs.declared.inst.Inst.{Inst}
use Rattle.s390x_inst.specs.declared.inst.Inst.TheVariants as I
use Rattle.s390x_inst.specs.declared.vec_inst.VecInst.{VecInst}
use Rattle.s390x_inst.specs.declared.vec_inst.VecInst.TheVariants as V
use Rattle.s390x_rows.specs.declared.opcodes.TheConstants as opcodes
use Rattle.s390x_typed_steps.specs.Memory.{StorageForm, VrxForm, FloatForm, MemoryInstruction, other_rows, with_rows, left_or_lane, operate, load_and_operate, access_vector, access_elements, access_lane, load_left, store_left, is_left_lane, rest_memory, vector_memory, without_relative, reversed_code, load_lane_opcode, load_reversed_opcode, store_lane_opcode, store_reversed_opcode}
use Rattle.s390x_typed_steps.specs.Storage.{alu_rx, alu_rxy, atomic_rsy}
use Rattle.s390x_typed_steps.specs.VectorInstruction.{is_vector, reuses_vector, element_code, is_lane}

-- an access, none of whose rows is relative to the instruction
abbrev pub IsUnrelated : Option MemoryInstruction → Type 0
IsUnrelated None = Unit {0}
IsUnrelated (Some x) = (x.accesses ≡ true) × (other_rows x.form true ≡ None)

alu_unrelated : (have : Bool) (short long : Option ℕ) (rd ri : Reg) (mem : MemArg) → IsUnrelated (operate have short long rd ri mem)
alu_unrelated false short long rd ri mem = tt
alu_unrelated true short long rd ri mem = (refl, refl)

locked_unrelated : (opcode : Option ℕ) (rd rn : Reg) (mem : MemArg) → IsUnrelated (load_and_operate opcode rd rn mem)
locked_unrelated None rd rn mem = tt
locked_unrelated (Some opcode) rd rn mem = (refl, refl)

elements_unrelated : (opcode : ℕ) (rd : Reg) (code : Option ℕ) (mem : MemArg) → IsUnrelated (access_elements opcode rd code mem)
elements_unrelated opcode rd None mem = tt
elements_unrelated opcode rd (Some code) mem = (refl, refl)

lane_unrelated : (valid : Bool) (opcode : ℕ → ℕ) (register : ℕ) (code : Option ℕ) (size lane : ℕ) (mem : MemArg) → IsUnrelated (access_lane valid opcode register code size lane mem)
lane_unrelated valid opcode register None size lane mem = tt
lane_unrelated valid opcode register (Some code) size lane mem = go (is_lane size lane)
  where
    go : (t : Bool) → IsUnrelated (cond t (access_vector valid (VrxForm register (opcode code) lane) mem) None)
    go true = (refl, refl)
    go false = tt

float_unrelated : (t : Bool) (register short long short' long' : ℕ) → other_rows (cond t (FloatForm register short long) (FloatForm register short' long')) true ≡ None
float_unrelated true register short long short' long' = refl
float_unrelated false register short long short' long' = refl

left_unrelated : (left : (size register : ℕ) → StorageForm) → ((size register : ℕ) → other_rows (left size register) true ≡ None) → (opcode : ℕ → ℕ) (size lane : ℕ) (rd : Reg) (mem : MemArg) → IsUnrelated (left_or_lane left opcode size lane rd mem)
left_unrelated left none opcode size lane rd mem = go (is_left_lane size lane (number_of rd))
  where
    go : (t : Bool) → IsUnrelated (cond t (access_vector (is_vector rd) (left size (number_of rd)) mem) (access_lane (is_vector rd) opcode (number_of rd) (element_code size) size lane mem))
    go true = (refl, none size (number_of rd))
    go false = lane_unrelated (is_vector rd) opcode (number_of rd) (element_code size) size lane mem

-- the last clause of each is a copy for each other instruction
vector_unrelated : (v : VecInst) → IsUnrelated (vector_memory v)
vector_unrelated (V.VecLoadReplicate size rd mem) = elements_unrelated opcodes.VLREP rd (element_code size) mem
vector_unrelated (V.VecLoadReplicateRev size rd mem) = elements_unrelated opcodes.VLBRREP rd (reversed_code size) mem
vector_unrelated (V.VecLoadLane size rd ri mem lane) = lane_unrelated (reuses_vector rd ri) load_lane_opcode (number_of rd) (element_code size) size lane mem
vector_unrelated (V.VecLoadLaneRev size rd ri mem lane) = lane_unrelated (reuses_vector rd ri) load_reversed_opcode (number_of rd) (reversed_code size) size lane mem
vector_unrelated (V.VecLoadLaneUndef size rd mem lane) = left_unrelated load_left (λ size register. float_unrelated (nat_eq size 32) register _ _ _ _) load_lane_opcode size lane rd mem
vector_unrelated (V.VecLoadLaneRevUndef size rd mem lane) = lane_unrelated (is_vector rd) load_reversed_opcode (number_of rd) (reversed_code size) size lane mem
vector_unrelated (V.VecStoreLane size rd mem lane) = left_unrelated store_left (λ size register. float_unrelated (nat_eq size 32) register _ _ _ _) store_lane_opcode size lane rd mem
vector_unrelated (V.VecStoreLaneRev size rd mem lane) = lane_unrelated (is_vector rd) store_reversed_opcode (number_of rd) (reversed_code size) size lane mem
vector_unrelated v = assumption

-- a comparison has such a row, and LOAD ADDRESS accesses nothing
abbrev pub RestIsUnrelated : Inst → Type 0
RestIsUnrelated (I.CmpRX op rn mem) = Unit {0}
RestIsUnrelated (I.LoadAddr rd mem) = Unit {0}
RestIsUnrelated i = IsUnrelated (rest_memory i)

pub rest_unrelated : (i : Inst) → RestIsUnrelated i
rest_unrelated (I.AluRX op rd ri mem) = alu_unrelated (is_some (alu_rx op) || is_some (alu_rxy op)) (alu_rx op) (alu_rxy op) rd ri mem
rest_unrelated (I.AtomicRmw op rd rn mem) = locked_unrelated (atomic_rsy op) rd rn mem
rest_unrelated (I.Vector v) = vector_unrelated v
rest_unrelated i = assumption

-- of an access none of whose rows is relative to the instruction there are no other rows
without_none : (o : Option MemoryInstruction) → IsUnrelated o → without_relative o ≡ None
without_none None h = refl
without_none (Some x) h = ap (λ accesses. option_map (with_rows x) (other_rows x.form accesses)) h.0 ∙ ap (option_map (with_rows x)) h.1

pub alu_none : (have : Bool) (short long : Option ℕ) (rd ri : Reg) (mem : MemArg) → without_relative (operate have short long rd ri mem) ≡ None
alu_none have short long rd ri mem = without_none (operate have short long rd ri mem) (alu_unrelated have short long rd ri mem)

pub locked_none : (opcode : Option ℕ) (rd rn : Reg) (mem : MemArg) → without_relative (load_and_operate opcode rd rn mem) ≡ None
locked_none opcode rd rn mem = without_none (load_and_operate opcode rd rn mem) (locked_unrelated opcode rd rn mem)

pub vector_none : (v : VecInst) → without_relative (vector_memory v) ≡ None
vector_none v = without_none (vector_memory v) (vector_unrelated v)

abbrev pub HasNone : Inst → Type 0
HasNone (I.CmpRX op rn mem) = Unit {0}
HasNone i = without_relative (rest_memory i) ≡ None

pub rest_none : (i : Inst) → HasNone i
rest_none (I.CmpRX op rn mem) = tt
rest_none (I.LoadAddr rd mem) = refl
rest_none i = without_none (rest_memory i) (rest_unrelated i)
