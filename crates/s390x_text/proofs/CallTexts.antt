-- A call and a tail call without a cause of refusal have texts: those of the loads behind the one, and of the epilogue before the other.
use Rattle.std.proofs.Common.{◌≡◌, ℕ, ◌+◌, ◌-◌, ◌*◌, Bool, true, false, List, [], ◌∷◌, ◌++◌, Option, None, Some, ℤ, refl, sym, subst, ◌∙◌, ◌||◌, arith}
use Rattle.std.proofs.lemmas.Bool.{and_parts, eqb-true}
use Rattle.std.specs.Prelude.{cond, nat_eq, pos, ◌-ℤ◌}
use Rattle.s390x_base.specs.Registers.{general}
use Rattle.s390x_base.specs.declared.error.EmitError.{EmitError}
use Rattle.s390x_base.specs.declared.error.EmitError.TheVariants.{BadRegister, BadStackState}
use Rattle.s390x_base.specs.declared.ir.ValueType.{ValueType}
use Rattle.s390x_base.specs.declared.ir.ValueType.TheVariants.{I8, I16, I32, I64, F16, F32, F64, I8X8}
use Rattle.s390x_base.specs.declared.regs.Reg.{Reg}
use Rattle.s390x_base.specs.declared.regs.Reg.TheVariants.{Real}
use Rattle.s390x_inst.specs.Constructors.{load_of}
use Rattle.s390x_inst.specs.Emission.{Emission}
use Rattle.s390x_inst.specs.Frames.{above_stack, caller_at, epilogue, float_load, float_loads, floats_at, general_load, is_lost, saved_floats, target_copy}
use Rattle.s390x_inst.specs.declared.args.MemArg.TheVariants.{OutgoingArgOffset}
use Rattle.s390x_inst.specs.declared.calls.CallInfo.{CallInfo}
use Rattle.s390x_inst.specs.declared.calls.CallInstDest.{CallInstDest}
use Rattle.s390x_inst.specs.declared.calls.CallInstDest.TheVariants.{Direct, Indirect}
use Rattle.s390x_inst.specs.declared.calls.CallRetPair.{CallRetPair}
use Rattle.s390x_inst.specs.declared.calls.RetLocation.{RetLocation}
use Rattle.s390x_inst.specs.declared.calls.RetLocation.TheVariants.{Stack}
use Rattle.s390x_inst.specs.declared.calls.ReturnCallInfo.{ReturnCallInfo}
use Rattle.s390x_inst.specs.declared.inst.Inst.{Inst}
use Rattle.s390x_inst.specs.declared.inst.Inst.TheVariants as I
use Rattle.s390x_inst.specs.declared.state.FrameLayout.{FrameLayout}
use Rattle.s390x_inst.specs.declared.state.IsaFlags.{IsaFlags}
use Rattle.s390x_inst.specs.declared.vec_inst.VecInst.TheVariants.{VecLoad, VecLoadLaneUndef}
use Rattle.s390x_typed_steps.proofs.Causes.{first_left, first_right, unless_true}
use Rattle.s390x_typed_steps.specs.Calls.{call_bodies, calling, continuation_bodies, is_first_saved, is_target, load_before, load_bodies, load_or, loses_target, tail_bodies, wholes}
use Rattle.s390x_typed_steps.specs.Causes.{Declared, body_cause, body_fresh_labels, body_nominal_after, call_cause, first_emit_cause, instruction_fresh_labels, leaf_cause, tail_cause, tree_cause}
use Rattle.s390x_typed_steps.specs.Resolved.{resolved_instruction}
use Rattle.s390x_typed_steps.specs.Stack.{nominal_after}
use Rattle.s390x_typed_steps.specs.StepBody.{Calling, StepBody}
use Rattle.s390x_typed_steps.specs.Tree.{empty, leaves}
use Rattle.s390x_text.specs.Calls.{epilogue_text, is_first_saved as has_epilogue, loaded_text, loads_text, plain_call_text, result_at, results_text, simple_texts, tail_call_text}
use Rattle.s390x_text_rows.specs.Simple.{simple_text, unbuilt}
use Rattle.s390x_text_rows.specs.Texts.{Text, first_cause, fixed_text}
use Rattle.s390x_text_rows.specs.declared.error.TextError.{TextError}
use Rattle.s390x_text.proofs.Leaves.{whole_fine}
use Rattle.s390x_text.proofs.Mapless.{mapped}

pub first_fine : (a b : Option TextError) → a ≡ None → b ≡ None → first_cause a b ≡ None
first_fine None b p q = q
first_fine (Some e) b p q = p

-- ---- calls

-- a call takes all of the arguments from the stack; in a loop there are none
pub takes_all : (blocks nominal depth : ℕ) (c : Calling) → call_cause blocks nominal depth c ≡ None → (c.popped ≡ nominal) × ((nat_eq c.popped 0 || nat_eq depth 0) ≡ true)
takes_all blocks nominal depth c h =
    let parts = and_parts (nat_eq c.popped nominal) (nat_eq c.popped 0 || nat_eq depth 0) (unless_true _ BadStackState (first_left _ _ (first_right _ _ h))) in
    (eqb-true c.popped nominal parts.0, parts.1)

-- the load of a result has a text
load_fine : (flags : IsaFlags) (D : Declared) (n depth : ℕ) (e : Emission) (map : Option ℕ) (rd : Reg) (off : ℤ) (ty : ValueType)
    → body_cause flags D n e.nominal depth (load_or (mapped e map) (load_of rd (OutgoingArgOffset off) ty)) ≡ None → (loaded_text e (load_of rd (OutgoingArgOffset off) ty)).cause ≡ None
load_fine flags D n depth e map rd off I8 h = whole_fine flags D n depth e (I.Load64ZExt8 rd (OutgoingArgOffset off)) h
load_fine flags D n depth e map rd off I16 h = whole_fine flags D n depth e (I.Load64ZExt16 rd (OutgoingArgOffset off)) h
load_fine flags D n depth e map rd off I32 h = whole_fine flags D n depth e (I.Load64ZExt32 rd (OutgoingArgOffset off)) h
load_fine flags D n depth e map rd off I64 h = whole_fine flags D n depth e (I.Load64 rd (OutgoingArgOffset off)) h
load_fine flags D n depth e map rd off F16 h = whole_fine flags D n depth e (I.Vector (VecLoadLaneUndef 16 rd (OutgoingArgOffset off) 0)) h
load_fine flags D n depth e map rd off F32 h = whole_fine flags D n depth e (I.Vector (VecLoadLaneUndef 32 rd (OutgoingArgOffset off) 0)) h
load_fine flags D n depth e map rd off F64 h = whole_fine flags D n depth e (I.Vector (VecLoadLaneUndef 64 rd (OutgoingArgOffset off) 0)) h
load_fine flags D n depth e map rd off I8X8 h = absurd (cc)
load_fine flags D n depth e map rd off ty h = whole_fine flags D n depth e (I.Vector (VecLoad rd (OutgoingArgOffset off))) h

load_keeps : (e : Emission) (rd : Reg) (off : ℤ) (ty : ValueType) (m : ℕ) → body_nominal_after m (load_or e (load_of rd (OutgoingArgOffset off) ty)) ≡ m
load_keeps e rd off I8X8 m = refl
load_keeps e rd off ty m = refl

-- a result, by those behind it
result_fine : (flags : IsaFlags) (D : Declared) (n depth : ℕ) (e : Emission) (map : Option ℕ) (rd : Reg) (l : RetLocation) (rest : List StepBody) (others : Option TextError)
    → ((k : ℕ) → tree_cause flags D k e.nominal depth (leaves rest empty) ≡ None → others ≡ None)
    → tree_cause flags D n e.nominal depth (leaves (load_before (mapped e map) rd l rest) empty) ≡ None → first_cause (result_at e rd l).cause others ≡ None
result_fine flags D n depth e map rd (Stack off ty) rest others later h =
    let b = load_or (mapped e map) (load_of rd (OutgoingArgOffset off) ty) in
    let behind = first_right (body_cause flags D n e.nominal depth b) _ h in
    first_fine _ others (load_fine flags D n depth e map rd off ty (first_left _ _ h))
    (later (n + body_fresh_labels b) (subst (λ m. tree_cause flags D (n + body_fresh_labels b) m depth (leaves rest empty) ≡ None) (load_keeps (mapped e map) rd off ty e.nominal) behind))
result_fine flags D n depth e map rd l rest others later h = later n h

both_none : (a b : Option EmitError) → a ≡ None → b ≡ None → first_emit_cause a b ≡ None
both_none None b p q = q
both_none (Some c) b p q = p

-- steps before others have no cause either
front : (flags : IsaFlags) (D : Declared) (n m depth : ℕ) (a b : List StepBody) → tree_cause flags D n m depth (leaves (a ++ b) empty) ≡ None → tree_cause flags D n m depth (leaves a empty) ≡ None
front flags D n m depth [] b h = refl
front flags D n m depth (x ∷ a) b h =
    let own = body_cause flags D n m depth x in
    let later = front flags D (n + body_fresh_labels x) (body_nominal_after m x) depth a b (first_right own _ h) in
    both_none own _ (first_left own _ h) later

results_fine : (flags : IsaFlags) (D : Declared) (n depth : ℕ) (e : Emission) (map : Option ℕ) (ds : List CallRetPair) → tree_cause flags D n e.nominal depth (leaves (load_bodies (mapped e map) ds) empty) ≡ None → (results_text e ds).cause ≡ None
results_fine flags D n depth e map [] h = refl
results_fine flags D n depth e map (d ∷ ds) h =
    result_fine flags D n depth e map d.vreg d.location (load_bodies (mapped e map) ds) (results_text e ds).cause (λ k g. results_fine flags D k depth e map ds g) h

-- a call that may be patched shows no loads
loads_fine : (flags : IsaFlags) (D : Declared) (n m depth : ℕ) (patchable : Bool) (loads : List StepBody) (t : Text) → (tree_cause flags D n m depth (leaves loads empty) ≡ None → t.cause ≡ None)
    → tree_cause flags D n m depth (leaves (cond patchable [] loads) empty) ≡ None → (cond patchable (fixed_text []) t).cause ≡ None
loads_fine flags D n m depth true loads t fine h = refl
loads_fine flags D n m depth false loads t fine h = fine h

pub call_fine : (flags : IsaFlags) (D : Declared) (n depth : ℕ) (e : Emission) (map : Option ℕ) (link : Reg) (info : CallInfo)
    → tree_cause flags D n e.nominal depth (leaves (call_bodies (mapped e map) link info) empty) ≡ None → (plain_call_text e link info).cause ≡ None
call_fine flags D n depth e map link info h =
    let popped = info.callee_pop_size in
    let c = calling (mapped e map) link info in
    let own = first_left (call_cause D.blocks e.nominal depth c) _ h in
    let none : e.nominal - popped ≡ 0 = omega (arith, (takes_all D.blocks e.nominal depth c own).0) in
    let loads = load_bodies (mapped (record e { nominal = e.nominal - popped; outgoing = popped }) map) info.defs.items in
    let behind = front flags D (n + 0) (e.nominal - popped) depth (cond info.patchable [] loads) (continuation_bodies info.try_call_info) (first_right (call_cause D.blocks e.nominal depth c) _ h) in
    let shown : (m : ℕ) → Text = λ m. results_text (record e { nominal = m; outgoing = popped }) info.defs.items in
    let fine : (shown (e.nominal - popped)).cause ≡ None → (shown 0).cause ≡ None = λ g. subst (λ m. (shown m).cause ≡ None) none g in
    first_fine (loads_text e info).cause None
    (loads_fine flags D (n + 0) (e.nominal - popped) depth info.patchable loads (shown 0) (λ g. fine (results_fine flags D (n + 0) depth (record e { nominal = e.nominal - popped; outgoing = popped }) map info.defs.items g)) behind) refl

-- ---- tail calls

-- an instruction of an epilogue, whose text is that of no call
record Alone (e : Emission) (map : Option ℕ) (i : Inst) : Type 0 where
  pub text : (flags : IsaFlags) (D : Declared) (n depth : ℕ) → leaf_cause flags D n e.nominal depth (resolved_instruction (mapped e map) i) ≡ None → (simple_text true e i).cause ≡ None
  pub kept : nominal_after e.nominal (resolved_instruction (mapped e map) i) ≡ e.nominal

abbrev AllAlone : Emission → Option ℕ → List Inst → Type 0
AllAlone e map [] = Unit {0}
AllAlone e map (i ∷ is) = Alone e map i × AllAlone e map is

alone_append : (e : Emission) (map : Option ℕ) (a b : List Inst) → AllAlone e map a → AllAlone e map b → AllAlone e map (a ++ b)
alone_append e map [] b h k = k
alone_append e map (i ∷ a) b h k = (h.0, alone_append e map a b h.1 k)

texts_fine : (flags : IsaFlags) (D : Declared) (n depth : ℕ) (e : Emission) (map : Option ℕ) (is : List Inst) → AllAlone e map is
    → tree_cause flags D n e.nominal depth (leaves (wholes (mapped e map) is) empty) ≡ None → (simple_texts e is).cause ≡ None
texts_fine flags D n depth e map [] a h = refl
texts_fine flags D n depth e map (i ∷ is) a h =
    let j = resolved_instruction (mapped e map) i in
    let k = n + instruction_fresh_labels j in
    let behind = first_right (leaf_cause flags D n e.nominal depth j) _ h in
    first_fine _ _ (a.0.text flags D n depth (first_left _ _ h))
    (texts_fine flags D k depth e map is a.1 (subst (λ m. tree_cause flags D k m depth (leaves (wholes (mapped e map) is) empty) ≡ None) a.0.kept behind))

copied_alone : (e : Emission) (map : Option ℕ) (reg : Reg) (t : Bool) → AllAlone e map (cond t (I.Mov64 (Real (general 1)) reg ∷ []) [])
copied_alone e map reg true = (record { text = λ flags D n depth h. whole_fine flags D n depth e (I.Mov64 (Real (general 1)) reg) h; kept = refl }, tt)
copied_alone e map reg false = tt

copy_alone : (e : Emission) (map : Option ℕ) (dest : CallInstDest) → AllAlone e map (target_copy dest)
copy_alone e map (Direct name) = tt
copy_alone e map (Indirect reg) = copied_alone e map reg (is_lost reg)

floats_alone : (e : Emission) (map : Option ℕ) (start k : ℕ) (ns : List ℕ) → AllAlone e map (float_loads start k ns)
floats_alone e map start k [] = tt
floats_alone e map start k (n ∷ ns) = (record { text = λ flags D l depth h. whole_fine flags D l depth e (float_load n (start + 8 * k)) h; kept = refl }, floats_alone e map start (k + 1) ns)

general_alone : (e : Emission) (map : Option ℕ) (caller : ℕ) (o : Option ℕ) → AllAlone e map (general_load caller o)
general_alone e map caller None = tt
general_alone e map caller (Some g) =
    (record { text = λ flags D n depth h. whole_fine flags D n depth e (I.LoadMultiple64 (Real (general g)) (Real (general 14)) (above_stack (pos (caller + 8 * g)))) h; kept = refl }, tt)

epilogue_alone : (e : Emission) (map : Option ℕ) (layout : FrameLayout) (popped : ℕ) (dest : CallInstDest) → AllAlone e map (epilogue layout popped dest)
epilogue_alone e map layout popped dest =
    let floats = float_loads (floats_at layout) 0 (saved_floats layout.saved_fprs) in
    let generals = general_load (caller_at layout) layout.first_saved_gpr in
    let above = above_stack (pos (caller_at layout + layout.tail_args_size) -ℤ pos popped) in
    let copy = target_copy dest in
    alone_append e map (copy ++ floats ++ generals) (I.LoadAddr (Real (general 15)) above ∷ [])
    (alone_append e map (copy ++ floats) generals
    (alone_append e map copy floats (copy_alone e map dest) (floats_alone e map (floats_at layout) 0 (saved_floats layout.saved_fprs))) (general_alone e map (caller_at layout) layout.first_saved_gpr))
    (record { text = λ flags D n depth h. whole_fine flags D n depth e (I.LoadAddr (Real (general 15)) above) h; kept = refl }, tt)

same_first : (o : Option ℕ) → is_first_saved o ≡ has_epilogue o
same_first None = refl
same_first (Some g) = refl

built : (t : Bool) (x : Text) → t ≡ true → x.cause ≡ None → (cond t x unbuilt).cause ≡ None
built true x p q = q
built false x p q = absurd (cc)

pub tail_fine : (flags : IsaFlags) (D : Declared) (n depth : ℕ) (e : Emission) (map : Option ℕ) (info : ReturnCallInfo CallInstDest)
    → tree_cause flags D n e.nominal depth (leaves (tail_bodies (mapped e map) info.callee_pop_size info.dest) empty) ≡ None → (tail_call_text e info).cause ≡ None
tail_fine flags D n depth e map info h =
    let popped = info.callee_pop_size in
    let saved = e.layout.first_saved_gpr in
    let opening = tail_cause info.dest saved (loses_target e.layout popped info.dest) in
    let is = epilogue e.layout popped info.dest in
    let first_is = and_parts (is_target info.dest) (is_first_saved saved) (unless_true _ BadRegister (first_left _ _ (first_left opening _ h))) in
    let behind = front flags D (n + 0) e.nominal depth (wholes (mapped e map) is) _ (first_right opening _ h) in
    first_fine (epilogue_text e popped info.dest).cause None
    (built (has_epilogue saved) (simple_texts e is) (sym (same_first saved) ∙ first_is.1) (texts_fine flags D (n + 0) depth e map is (epilogue_alone e map e.layout popped info.dest) behind)) refl
