-- An instruction and the same without a frame operand.
use Rattle.std.proofs.Common.{◌≡◌, ℕ, Bool, true, false, List, Option, Some, None, refl, sym, ap, subst, ◌∙◌, is_some, ◌||◌, ◌&&◌}
use Rattle.std.specs.Option.{option_map}
use Rattle.s390x_base.specs.declared.regs.Reg.{Reg}
use Rattle.s390x_inst.specs.Emission.{Emission}
use Rattle.s390x_inst.specs.Facilities.{facility_of}
use Rattle.s390x_base.specs.declared.error.EmitError.{EmitError}
use Rattle.s390x_inst.specs.declared.args.MemArg.{MemArg}
use Rattle.s390x_inst.specs.declared.args.MemArg.TheVariants.{InitialSPOffset}
use Rattle.s390x_inst.specs.declared.inst.Inst.{Inst}
use Rattle.s390x_inst.specs.declared.inst.Inst.TheVariants as I
use Rattle.s390x_inst.specs.declared.vec_inst.VecInst.{VecInst}
use Rattle.s390x_inst.specs.declared.vec_inst.VecInst.TheVariants as V
use Rattle.s390x_inst.specs.Facilities.{has_facility}
use Rattle.s390x_inst.specs.declared.state.IsaFlags.{IsaFlags}
use Rattle.s390x_typed_steps.specs.SingleInstruction.{SingleInstruction, single_instruction, stop_code}
use Rattle.s390x_typed_steps.specs.Causes.{Declared, first_emit_cause, facility_cause, cause_or, memory_cause_or, branch_cause, instruction_cause, instruction_fresh_labels, stack_cause, tree_cause}
use Rattle.s390x_typed_steps.specs.Memory.{MemoryInstruction, has_relative_row, accesses_relative, operate, load_and_operate, memory}
use Rattle.s390x_typed_steps.specs.Operands.{resolved_operand, is_relative}
use Rattle.s390x_typed_steps.specs.Ranges.{MaskInRange, OperandInRange, MemoryInRange, InRange}
use Rattle.s390x_typed_steps.specs.Resolved.{resolved_instruction}
use Rattle.s390x_typed_steps.specs.Storage.{alu_rx, alu_rxy, atomic_rsy}
use Rattle.s390x_address.specs.Rows.{in_state}
use Rattle.s390x_emit_int.specs.Members.{member_of}
use Rattle.s390x_typed_steps.proofs.Causes.{first_left}
use Rattle.s390x_typed_steps.specs.Causes.{unless}
use Rattle.s390x_base.specs.declared.error.EmitError.TheVariants.{MissingFacility}
use Rattle.s390x_typed_steps.specs.MachineInstruction.{MachineInstruction}
use Rattle.s390x_typed_steps.specs.Parts.{parts_size, row_parts}
use Rattle.s390x_emit_int.specs.Emission.{branch_fragments, branch_size, part_fragments}
use Rattle.s390x_emit_int.proofs.VectorResolving.{vector_single, vector_stops, vector_facilities, composite_causes, composites, vector_memories}

pub single_resolved : (e : Emission) (i : Inst) → single_instruction (resolved_instruction e i) ≡ single_instruction i
single_resolved e (I.CondBreak mask) = refl
single_resolved e (I.Vector v) = vector_single e v
single_resolved e i = refl

pub stop_resolved : (e : Emission) (i : Inst) → stop_code (resolved_instruction e i) ≡ stop_code i
stop_resolved e (I.CondBreak mask) = refl
stop_resolved e (I.Vector v) = vector_stops e v
stop_resolved e i = refl

facility_resolved : (e : Emission) (i : Inst) → facility_of (resolved_instruction e i) ≡ facility_of i
facility_resolved e (I.CondBreak mask) = refl
facility_resolved e (I.Vector v) = vector_facilities e v
facility_resolved e i = refl

pub branch_resolved : (e : Emission) (blocks depth : ℕ) (i : Inst) → branch_cause blocks depth (resolved_instruction e i) ≡ branch_cause blocks depth i
branch_resolved e blocks depth (I.CondBreak mask) = refl
branch_resolved e blocks depth (I.Vector v) = composite_causes e v
branch_resolved e blocks depth i = refl

pub fragments_resolved : (e : Emission) (n after : ℕ) (i : Inst) → branch_fragments n after (resolved_instruction e i) ≡ branch_fragments n after i
fragments_resolved e n after (I.CondBreak mask) = refl
fragments_resolved e n after (I.Vector v) = ap (λ (ms : List MachineInstruction). part_fragments (row_parts ms)) (composites e v)
fragments_resolved e n after i = refl

pub fresh_labels_resolved : (e : Emission) (i : Inst) → instruction_fresh_labels (resolved_instruction e i) ≡ instruction_fresh_labels i
fresh_labels_resolved e (I.CondBreak mask) = refl
fresh_labels_resolved e i = refl

pub size_resolved : (e : Emission) (i : Inst) → branch_size (resolved_instruction e i) ≡ branch_size i
size_resolved e (I.CondBreak mask) = refl
size_resolved e (I.Vector v) = ap (λ (ms : List MachineInstruction). parts_size (row_parts ms)) (composites e v)
size_resolved e i = refl

operate_resolved : (e : Emission) (has : Bool) (rx rxy : Option ℕ) (rd ri : Reg) (mem : MemArg) → operate has rx rxy rd ri (resolved_operand e mem) ≡ option_map (in_state e) (operate has rx rxy rd ri mem)
operate_resolved e true rx rxy rd ri mem = refl
operate_resolved e false rx rxy rd ri mem = refl

atomic_resolved : (e : Emission) (rsy : Option ℕ) (rd rn : Reg) (mem : MemArg) → load_and_operate rsy rd rn (resolved_operand e mem) ≡ option_map (in_state e) (load_and_operate rsy rd rn mem)
atomic_resolved e None rd rn mem = refl
atomic_resolved e (Some opcode) rd rn mem = refl

pub memory_resolved : (e : Emission) (i : Inst) → memory (resolved_instruction e i) ≡ option_map (in_state e) (memory i)
memory_resolved e (I.AluRX op rd ri mem) = operate_resolved e (is_some (alu_rx op) || is_some (alu_rxy op)) (alu_rx op) (alu_rxy op) rd ri mem
memory_resolved e (I.AtomicRmw op rd rn mem) = atomic_resolved e (atomic_rsy op) rd rn mem
memory_resolved e (I.Vector v) = vector_memories e v
memory_resolved e i = refl

-- the rows of an instruction with a memory operand are the same
pub found_memory : (e : Emission) (i : Inst) (x : MemoryInstruction) → Some x ≡ memory i → memory (resolved_instruction e i) ≡ Some (in_state e x)
found_memory e i x h = memory_resolved e i ∙ ap (option_map (in_state e)) (sym h)

pub no_memory : (e : Emission) (i : Inst) → None ≡ memory i → memory (resolved_instruction e i) ≡ None
no_memory e i h = memory_resolved e i ∙ ap (option_map (in_state e)) (sym h)

relative_operand : (e : Emission) (m : MemArg) → is_relative (resolved_operand e m) ≡ is_relative m
relative_operand e (InitialSPOffset off) = refl
relative_operand e m = refl

pub relative_in_state : (e : Emission) (o : Option MemoryInstruction) → accesses_relative (option_map (in_state e) o) ≡ accesses_relative o
relative_in_state e None = refl
relative_in_state e (Some x) = ap (λ b. has_relative_row x.form && x.accesses && b) (relative_operand e x.operand)

-- what the machine lacks of an instruction doesn't depend on the state of emission
pub lacks_resolved : (flags : IsaFlags) (e : Emission) (i : Inst) → facility_cause flags (resolved_instruction e i) ≡ facility_cause flags i
lacks_resolved flags e i = ap (λ f. unless (has_facility flags f) MissingFacility) (facility_resolved e i)

rest_resolved : (flags : IsaFlags) (e : Emission) (D : Declared) (nominal depth : ℕ) (i : Inst) →
    first_emit_cause (facility_cause flags (resolved_instruction e i)) (first_emit_cause (stack_cause nominal depth i) (cause_or (single_instruction i) (memory_cause_or D (memory (resolved_instruction e i)) (branch_cause D.blocks depth i)))) ≡ instruction_cause flags D nominal depth (resolved_instruction e i)
rest_resolved flags e D nominal depth (I.CondBreak mask) = refl
rest_resolved flags e D nominal depth (I.Vector v) =
    ap (λ o. first_emit_cause (facility_cause flags (resolved_instruction e (I.Vector v))) (cause_or o (memory_cause_or D (memory (resolved_instruction e (I.Vector v))) (branch_cause D.blocks depth (I.Vector v))))) (sym (single_resolved e (I.Vector v)))
    ∙ ap (λ o. first_emit_cause (facility_cause flags (resolved_instruction e (I.Vector v))) (cause_or (single_instruction (resolved_instruction e (I.Vector v))) (memory_cause_or D (memory (resolved_instruction e (I.Vector v))) o))) (sym (branch_resolved e D.blocks depth (I.Vector v)))
rest_resolved flags e D nominal depth i = refl

-- the first cause by the parts that the code looks at
pub cause_resolved : (flags : IsaFlags) (e : Emission) (D : Declared) (nominal depth : ℕ) (i : Inst) → first_emit_cause (facility_cause flags i) (first_emit_cause (stack_cause nominal depth i) (cause_or (single_instruction i) (memory_cause_or D (memory (resolved_instruction e i)) (branch_cause D.blocks depth i)))) ≡ instruction_cause flags D nominal depth (resolved_instruction e i)
cause_resolved flags e D nominal depth i =
    ap (λ f. first_emit_cause f (first_emit_cause (stack_cause nominal depth i) (cause_or (single_instruction i) (memory_cause_or D (memory (resolved_instruction e i)) (branch_cause D.blocks depth i))))) (sym (lacks_resolved flags e i))
    ∙ rest_resolved flags e D nominal depth i

-- a member without a cause has none by the stack sizes
pub no_stack_cause : (flags : IsaFlags) (e : Emission) (D : Declared) (n nominal depth : ℕ) (i : Inst) → tree_cause flags D n nominal depth (member_of flags e i) ≡ None → stack_cause nominal depth i ≡ None
no_stack_cause flags e D n nominal depth (I.AllocateArgs size) h = first_left _ _ (first_left _ _ (first_left _ _ h))
no_stack_cause flags e D n nominal depth i h = refl

-- ---- ranges

pub mask_resolved : (e : Emission) (i : Inst) → MaskInRange i → MaskInRange (resolved_instruction e i)
mask_resolved e (I.CondBreak mask) h = h
mask_resolved e i h = h

-- whether there are both
have_both : Option MemoryInstruction → Option SingleInstruction → Bool
have_both None a = false
have_both (Some x) None = false
have_both (Some x) (Some y) = true

not_single : (o : Option MemoryInstruction) → have_both o None ≡ false
unfolding have_both
not_single None = refl
not_single (Some x) = refl

never_both_vector : (v : VecInst) → have_both (memory (I.Vector v)) (single_instruction (I.Vector v)) ≡ false
unfolding have_both
never_both_vector (V.VecLoadReplicate size rd mem) = not_single (memory (I.Vector (V.VecLoadReplicate size rd mem)))
never_both_vector (V.VecLoadReplicateRev size rd mem) = not_single (memory (I.Vector (V.VecLoadReplicateRev size rd mem)))
never_both_vector (V.VecLoadLane size rd ri mem lane) = not_single (memory (I.Vector (V.VecLoadLane size rd ri mem lane)))
never_both_vector (V.VecLoadLaneRev size rd ri mem lane) = not_single (memory (I.Vector (V.VecLoadLaneRev size rd ri mem lane)))
never_both_vector (V.VecLoadLaneUndef size rd mem lane) = not_single (memory (I.Vector (V.VecLoadLaneUndef size rd mem lane)))
never_both_vector (V.VecLoadLaneRevUndef size rd mem lane) = not_single (memory (I.Vector (V.VecLoadLaneRevUndef size rd mem lane)))
never_both_vector (V.VecStoreLane size rd mem lane) = not_single (memory (I.Vector (V.VecStoreLane size rd mem lane)))
never_both_vector (V.VecStoreLaneRev size rd mem lane) = not_single (memory (I.Vector (V.VecStoreLaneRev size rd mem lane)))
never_both_vector v = refl

never_both : (i : Inst) → have_both (memory i) (single_instruction i) ≡ false
unfolding have_both
never_both (I.AluRX op rd ri mem) = not_single (memory (I.AluRX op rd ri mem))
never_both (I.AtomicRmw op rd rn mem) = not_single (memory (I.AtomicRmw op rd rn mem))
never_both (I.Vector v) = never_both_vector v
never_both i = refl

without_operand : (o : Option MemoryInstruction) (a : Option SingleInstruction) (x : SingleInstruction) → Some x ≡ a → have_both o a ≡ false → MemoryInRange o
unfolding have_both
without_operand None a x e h = tt
without_operand (Some y) None x e h = absurd (cc)
without_operand (Some y) (Some z) x e h = absurd (cc)

single_memory : (i : Inst) (x : SingleInstruction) → Some x ≡ single_instruction i → MemoryInRange (memory i)
single_memory i x e = without_operand (memory i) (single_instruction i) x e (never_both i)

single_mask : (i : Inst) (x : SingleInstruction) → Some x ≡ single_instruction i → MaskInRange i
single_mask (I.CondBr taken not_taken mask) x e = absurd (cc)
single_mask (I.JTSequence ridx other mask targets) x e = absurd (cc)
single_mask (I.CondBreak mask) x e = absurd (cc)
single_mask (I.TrapIf mask code) x e = absurd (cc)
single_mask i x e = tt

-- an instruction that is one machine instruction on registers has no masks and no displacements
pub single_range : (i : Inst) (x : SingleInstruction) → Some x ≡ single_instruction i → InRange i
single_range i x e = (single_mask i x e, single_memory i x e)

memory_mask : (i : Inst) (x : MemoryInstruction) → Some x ≡ memory i → MaskInRange i
memory_mask (I.CondBr taken not_taken mask) x e = absurd (cc)
memory_mask (I.JTSequence ridx other mask targets) x e = absurd (cc)
memory_mask (I.CondBreak mask) x e = absurd (cc)
memory_mask (I.TrapIf mask code) x e = absurd (cc)
memory_mask i x e = tt

of_memory : (o : Option MemoryInstruction) (x : MemoryInstruction) → o ≡ Some x → OperandInRange x.operand → MemoryInRange o
of_memory None x h r = absurd (cc)
of_memory (Some y) x h r = let same : y.operand ≡ x.operand = cc in subst OperandInRange (sym same) r

-- one with a memory operand has its displacement
pub memory_range : (e : Emission) (i : Inst) (x : MemoryInstruction) → Some x ≡ memory i → OperandInRange (resolved_operand e x.operand) → InRange (resolved_instruction e i)
memory_range e i x h r = (mask_resolved e i (memory_mask i x h), of_memory (memory (resolved_instruction e i)) (in_state e x) (found_memory e i x h) r)

without_memory : (o : Option MemoryInstruction) → o ≡ None → MemoryInRange o
without_memory None h = tt
without_memory (Some x) h = absurd (cc)

-- another one has its mask
pub branch_range : (e : Emission) (i : Inst) → None ≡ memory i → MaskInRange i → InRange (resolved_instruction e i)
branch_range e i h m = (mask_resolved e i m, without_memory (memory (resolved_instruction e i)) (no_memory e i h))

-- without an operand, the other causes are asked
pub or_none : (D : Declared) (o : Option MemoryInstruction) (others : Option EmitError) → memory_cause_or D o others ≡ None → memory_cause_or D o None ≡ None
or_none D None others h = refl
or_none D (Some x) others h = h
