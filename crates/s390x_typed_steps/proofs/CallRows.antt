-- The steps of calls and of tail calls access no operand that is relative to the instruction, and so stay on each machine.
use Rattle.std.proofs.Common.{◌≡◌, ℕ, ◌+◌, ◌*◌, ℤ, pos, Bool, true, false, cond, ◌&&◌, List, [], ◌∷◌, ◌++◌, Option, Some, None, refl, ap, ◌∙◌}
use Rattle.std.specs.Prelude.{nat_eq, ◌-ℤ◌}
use Rattle.s390x_base.specs.Registers.{general, vector}
use Rattle.s390x_base.specs.Regs.{number_of}
use Rattle.s390x_base.specs.declared.ir.ValueType.{ValueType}
use Rattle.s390x_base.specs.declared.ir.ValueType.TheVariants.{F16, F32, F64}
use Rattle.s390x_base.specs.declared.regs.Reg.{Reg}
use Rattle.s390x_base.specs.declared.regs.Reg.TheVariants.{Real}
use Rattle.s390x_inst.specs.Constructors.{load_of}
use Rattle.s390x_inst.specs.Emission.{Emission}
use Rattle.s390x_inst.specs.Frames.{is_lost, target_copy, saved_floats, float_loads, general_load, floats_at, caller_at, epilogue, above_stack}
use Rattle.s390x_inst.specs.declared.args.MemArg.{MemArg}
use Rattle.s390x_inst.specs.declared.args.MemArg.TheVariants.{OutgoingArgOffset}
use Rattle.s390x_inst.specs.declared.calls.CallInfo.{CallInfo}
use Rattle.s390x_inst.specs.declared.calls.CallInstDest.{CallInstDest}
use Rattle.s390x_inst.specs.declared.calls.CallInstDest.TheVariants.{Direct, Indirect}
use Rattle.s390x_inst.specs.declared.calls.CallRetPair.{CallRetPair}
use Rattle.s390x_inst.specs.declared.calls.RetLocation.{RetLocation}
use Rattle.s390x_inst.specs.declared.calls.RetLocation.TheVariants.{Stack}
use Rattle.s390x_inst.specs.declared.calls.TryCallInfo.{TryCallInfo}
use Rattle.s390x_inst.specs.declared.inst.Inst.{Inst}
use Rattle.s390x_inst.specs.declared.inst.Inst.TheVariants.{LoadAddr, Mov64, Vector}
use Rattle.s390x_inst.specs.declared.state.FrameLayout.{FrameLayout}
use Rattle.s390x_inst.specs.declared.state.IsaFlags.{IsaFlags}
use Rattle.s390x_inst.specs.declared.vec_inst.VecInst.TheVariants.{VecLoadLaneUndef}
use Rattle.s390x_rows.specs.declared.opcodes.TheConstants as opcodes
use Rattle.s390x_typed_steps.specs.Baseline.{whole_or_loaded, body_for, tree_for}
use Rattle.s390x_typed_steps.specs.Calls.{wholes, load_or, load_before, load_bodies, behind_call, result_bodies, continuation_bodies, call_bodies, tail_bodies, jump_target}
use Rattle.s390x_typed_steps.specs.Memory.{MemoryInstruction, FloatForm, VrxForm, memory, accesses_relative, access_vector, access_lane, load_left, load_lane_opcode, is_left_lane}
use Rattle.s390x_typed_steps.specs.Operands.{resolved_operand}
use Rattle.s390x_typed_steps.specs.Resolved.{resolved_instruction}
use Rattle.s390x_typed_steps.specs.Tree.{StepBody, Whole, TailJump, empty, leaf, leaves}
use Rattle.s390x_typed_steps.specs.VectorInstruction.{is_vector, element_code, is_lane}

-- each body is the same on a machine with these flags
abbrev AllStay : IsaFlags → List StepBody → Type 0
AllStay flags [] = Unit {0}
AllStay flags (b ∷ bs) = (body_for flags b ≡ b) × AllStay flags bs

stay_append : (flags : IsaFlags) (a b : List StepBody) → AllStay flags a → AllStay flags b → AllStay flags (a ++ b)
stay_append flags [] b h k = k
stay_append flags (x ∷ a) b h k = (h.0, stay_append flags a b h.1 k)

stay_leaves : (flags : IsaFlags) (bs : List StepBody) → AllStay flags bs → tree_for flags (leaves bs empty) ≡ leaves bs empty
stay_leaves flags [] h = refl
stay_leaves flags (b ∷ bs) h = ap (λ c. leaf c (tree_for flags (leaves bs empty))) h.0 ∙ ap (leaf b) (stay_leaves flags bs h.1)

whole_stays : (flags : IsaFlags) (i : Inst) → accesses_relative (memory i) ≡ false → body_for flags (Whole i) ≡ Whole i
whole_stays flags i h = ap (λ t. whole_or_loaded (t && flags.no_relative_memory) i) h

-- ---- the load of an element

either_none : (t : Bool) (a b : Option MemoryInstruction) → accesses_relative a ≡ false → accesses_relative b ≡ false → accesses_relative (cond t a b) ≡ false
either_none true a b h k = h
either_none false a b h k = k

left_none : (valid : Bool) (size register : ℕ) (mem : MemArg) → accesses_relative (access_vector valid (load_left size register) mem) ≡ false
left_none valid size register mem = go (nat_eq size 32)
  where
    go : (t : Bool) → accesses_relative (access_vector valid (cond t (FloatForm register opcodes.LE opcodes.LEY) (FloatForm register opcodes.LD opcodes.LDY)) mem) ≡ false
    go true = refl
    go false = refl

lane_none : (valid : Bool) (register : ℕ) (code : Option ℕ) (size lane : ℕ) (mem : MemArg) → accesses_relative (access_lane valid load_lane_opcode register code size lane mem) ≡ false
lane_none valid register None size lane mem = refl
lane_none valid register (Some code) size lane mem = go (is_lane size lane)
  where
    go : (t : Bool) → accesses_relative (cond t (access_vector valid (VrxForm register (load_lane_opcode code) lane) mem) None) ≡ false
    go true = refl
    go false = refl

undef_none : (size : ℕ) (rd : Reg) (mem : MemArg) (lane : ℕ) → accesses_relative (memory (Vector (VecLoadLaneUndef size rd mem lane))) ≡ false
undef_none size rd mem lane =
    either_none (is_left_lane size lane (number_of rd)) (access_vector (is_vector rd) (load_left size (number_of rd)) mem) (access_lane (is_vector rd) load_lane_opcode (number_of rd) (element_code size) size lane mem)
    (left_none (is_vector rd) size (number_of rd) mem) (lane_none (is_vector rd) (number_of rd) (element_code size) size lane mem)

-- ---- a call

load_stays : (flags : IsaFlags) (e : Emission) (rd : Reg) (off : ℤ) (ty : ValueType) → body_for flags (load_or e (load_of rd (OutgoingArgOffset off) ty)) ≡ load_or e (load_of rd (OutgoingArgOffset off) ty)
load_stays flags e rd off F16 = whole_stays flags (resolved_instruction e (Vector (VecLoadLaneUndef 16 rd (OutgoingArgOffset off) 0))) (undef_none 16 rd (resolved_operand e (OutgoingArgOffset off)) 0)
load_stays flags e rd off F32 = whole_stays flags (resolved_instruction e (Vector (VecLoadLaneUndef 32 rd (OutgoingArgOffset off) 0))) (undef_none 32 rd (resolved_operand e (OutgoingArgOffset off)) 0)
load_stays flags e rd off F64 = whole_stays flags (resolved_instruction e (Vector (VecLoadLaneUndef 64 rd (OutgoingArgOffset off) 0))) (undef_none 64 rd (resolved_operand e (OutgoingArgOffset off)) 0)
load_stays flags e rd off ty = refl

loads_stay : (flags : IsaFlags) (e : Emission) (ds : List CallRetPair) → AllStay flags (load_bodies e ds)
loads_stay flags e [] = tt
loads_stay flags e (d ∷ ds) = go d.location (loads_stay flags e ds)
  where
    go : (l : RetLocation) → AllStay flags (load_bodies e ds) → AllStay flags (load_before e d.vreg l (load_bodies e ds))
    go (Stack off ty) later = (load_stays flags e d.vreg off ty, later)
    go l later = later

results_stay : (flags : IsaFlags) (e : Emission) (info : CallInfo) → AllStay flags (result_bodies e info)
results_stay flags e info = go info.patchable
  where
    go : (p : Bool) → AllStay flags (cond p [] (load_bodies (behind_call e info.callee_pop_size) info.defs.items))
    go true = tt
    go false = loads_stay flags (behind_call e info.callee_pop_size) info.defs.items

continuation_stays : (flags : IsaFlags) (t : Option TryCallInfo) → AllStay flags (continuation_bodies t)
continuation_stays flags None = tt
continuation_stays flags (Some t) = (refl, tt)

pub call_stays : (flags : IsaFlags) (e : Emission) (link : Reg) (info : CallInfo) → tree_for flags (leaves (call_bodies e link info) empty) ≡ leaves (call_bodies e link info) empty
call_stays flags e link info =
    stay_leaves flags (call_bodies e link info) (refl, stay_append flags (result_bodies e info) (continuation_bodies info.try_call_info) (results_stay flags e info) (continuation_stays flags info.try_call_info))

-- ---- a tail call

-- instructions that access no such operand in any state of emission
abbrev NoneRelative : List Inst → Type 0
NoneRelative [] = Unit {0}
NoneRelative (i ∷ is) = ((e : Emission) → accesses_relative (memory (resolved_instruction e i)) ≡ false) × NoneRelative is

none_append : (a b : List Inst) → NoneRelative a → NoneRelative b → NoneRelative (a ++ b)
none_append [] b h k = k
none_append (i ∷ a) b h k = (h.0, none_append a b h.1 k)

wholes_stay : (flags : IsaFlags) (e : Emission) (is : List Inst) → NoneRelative is → AllStay flags (wholes e is)
wholes_stay flags e [] h = tt
wholes_stay flags e (i ∷ is) h = (whole_stays flags (resolved_instruction e i) (h.0 e), wholes_stay flags e is h.1)

copy_none : (dest : CallInstDest) → NoneRelative (target_copy dest)
copy_none (Direct name) = tt
copy_none (Indirect reg) = go (is_lost reg)
  where
    go : (t : Bool) → NoneRelative (cond t (Mov64 (Real (general 1)) reg ∷ []) [])
    go true = (λ e. refl, tt)
    go false = tt

floats_none : (start k : ℕ) (ns : List ℕ) → NoneRelative (float_loads start k ns)
floats_none start k [] = tt
floats_none start k (n ∷ ns) = (λ e. undef_none 64 (Real (vector n)) (above_stack (pos (start + 8 * k))) 0, floats_none start (k + 1) ns)

general_none : (caller : ℕ) (first : Option ℕ) → NoneRelative (general_load caller first)
general_none caller None = tt
general_none caller (Some g) = (λ e. refl, tt)

epilogue_none : (layout : FrameLayout) (popped : ℕ) (dest : CallInstDest) → NoneRelative (epilogue layout popped dest)
epilogue_none layout popped dest =
    let floats = float_loads (floats_at layout) 0 (saved_floats layout.saved_fprs) in
    let generals = general_load (caller_at layout) layout.first_saved_gpr in
    let raise = LoadAddr (Real (general 15)) (above_stack (pos (caller_at layout + layout.tail_args_size) -ℤ pos popped)) ∷ [] in
    let copy = target_copy dest in
    none_append (copy ++ floats ++ generals) raise
    (none_append (copy ++ floats) generals
    (none_append copy floats (copy_none dest) (floats_none (floats_at layout) 0 (saved_floats layout.saved_fprs))) (general_none (caller_at layout) layout.first_saved_gpr)) (λ e. refl, tt)

pub tail_stays : (flags : IsaFlags) (e : Emission) (popped : ℕ) (dest : CallInstDest) → tree_for flags (leaves (tail_bodies e popped dest) empty) ≡ leaves (tail_bodies e popped dest) empty
tail_stays flags e popped dest =
    stay_leaves flags (tail_bodies e popped dest) (refl, stay_append flags (wholes e (epilogue e.layout popped dest)) (TailJump (jump_target dest) ∷ []) (wholes_stay flags e (epilogue e.layout popped dest) (epilogue_none e.layout popped dest)) (refl, tt))
