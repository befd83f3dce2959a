-- A call's sites, registers and room.
use Rattle.std.proofs.Common.{◌≡◌, ℕ, ◌+◌, ◌<◌, ◌≤◌, ◌&&◌, List, [], ◌∷◌, ◌++◌, map, length, Option, None, Some, Bool, true, false, cond, refl, sym, ap, ap₂, ◌∙◌, arith, append-nil, nat_eq, nat_lt, ltb-true, ◌||◌}
use Rattle.std.proofs.lemmas.Bool.{lt-ltb, and_parts}
use Rattle.s390x_base.specs.Registers.{general}
use Rattle.s390x_base.specs.declared.error.EmitError.{EmitError}
use Rattle.s390x_base.specs.declared.error.EmitError.TheVariants.{BadRegister, BadStackState, UnboundLabel}
use Rattle.s390x_base.specs.declared.ir.MachLabel.{MachLabel}
use Rattle.s390x_base.specs.declared.ir.ValueType.{ValueType}
use Rattle.s390x_base.specs.declared.ir.ValueType.TheVariants.{I8X8}
use Rattle.s390x_base.specs.declared.regs.Reg.{Reg}
use Rattle.s390x_base.specs.declared.regs.Reg.TheVariants.{Real}
use Rattle.s390x_buffer.specs.State.{BufferState, labels_below, handlers_cause, put_cause}
use Rattle.s390x_buffer.specs.declared.entries.TryHandler.{TryHandler}
use Rattle.s390x_inst.specs.Constructors.{load_of}
use Rattle.s390x_inst.specs.Emission.{Emission}
use Rattle.s390x_inst.specs.Frames.{is_lost, target_copy, saved_floats, float_loads, general_load, floats_at, caller_at, epilogue, above_stack}
use Rattle.s390x_inst.specs.declared.args.MemArg.{MemArg}
use Rattle.s390x_inst.specs.declared.calls.CallInfo.{CallInfo}
use Rattle.s390x_inst.specs.declared.calls.CallInstDest.{CallInstDest}
use Rattle.s390x_inst.specs.declared.calls.CallInstDest.TheVariants.{Direct, Indirect}
use Rattle.s390x_inst.specs.declared.calls.TryCallHandler.{TryCallHandler}
use Rattle.s390x_inst.specs.declared.calls.TryCallInfo.{TryCallInfo}
use Rattle.s390x_inst.specs.declared.inst.Inst.{Inst}
use Rattle.s390x_inst.specs.declared.inst.Inst.TheVariants.{Mov64, LoadAddr}
use Rattle.s390x_inst.specs.declared.state.FrameLayout.{FrameLayout}
use Rattle.std.specs.Prelude.{pos, ◌-ℤ◌}
use Rattle.s390x_format.specs.Formats.{length_of}
use Rattle.s390x_typed_steps.specs.Calls.{is_target, call_size, handler_of, map_site, return_site, patchable_site, sites_of, site_labels, calling, load_or, copied_or, jump_target}
use Rattle.s390x_typed_steps.specs.Causes.{unless, call_cause, labels_cause, body_nominal_after}
use Rattle.s390x_typed_steps.specs.General.{is_general}
use Rattle.s390x_typed_steps.specs.Parts.{call_part, tail_part, site_parts, parts_size, part_size, step_size}
use Rattle.s390x_typed_steps.specs.StepBody.{Site, AtCall}
use Rattle.s390x_typed_steps.specs.Steps.{CallingStep}
use Rattle.s390x_typed_steps.proofs.Causes.{first_left, first_right, unless_true}
use Rattle.s390x_emit_int.specs.Fragments.{AddSite, apply}
use Rattle.s390x_emit_int.specs.Sequence.{AllKeepNominal}
use Rattle.s390x_emit_int.specs.Room.{MembersFit}
use Rattle.s390x_emit_int.proofs.OnlyMemory.{put_none}

-- ---- the labels of a call's sites are those of its handlers

-- the labels that a try names
abbrev pub try_labels : Option TryCallInfo → List MachLabel
try_labels None = []
try_labels (Some t) = map (λ (h : TryCallHandler). (handler_of h).label) t.exception_handlers.items

map_names_none : (m : Option ℕ) (rest : List Site) → site_labels (map_site m ++ rest) ≡ site_labels rest
map_names_none None rest = refl
map_names_none (Some n) rest = refl

patchable_names_none : (p : Bool) (dest : CallInstDest) → site_labels (patchable_site p dest) ≡ []
patchable_names_none false dest = refl
patchable_names_none true dest = refl

label_of_handler : (hs : List TryCallHandler) → map (λ (h : TryHandler). h.label) (map handler_of hs) ≡ map (λ (h : TryCallHandler). (handler_of h).label) hs
label_of_handler [] = refl
label_of_handler (h ∷ hs) = ap (λ l. (handler_of h).label ∷ l) (label_of_handler hs)

return_names : (layout : FrameLayout) (t : Option TryCallInfo) (rest : List Site) → site_labels rest ≡ [] → site_labels (return_site layout t ∷ rest) ≡ try_labels t
return_names layout None rest none = none
return_names layout (Some t) rest none =
    ap (λ l. map (λ (h : TryHandler). h.label) (map handler_of t.exception_handlers.items) ++ l) none
    ∙ append-nil (map (λ (h : TryHandler). h.label) (map handler_of t.exception_handlers.items))
    ∙ label_of_handler t.exception_handlers.items

pub site_names : (e : Emission) (info : CallInfo) → site_labels (sites_of e info) ≡ try_labels info.try_call_info
site_names e info = map_names_none e.stack_map (return_site e.layout info.try_call_info ∷ patchable_site info.patchable info.dest) ∙ return_names e.layout info.try_call_info (patchable_site info.patchable info.dest) (patchable_names_none info.patchable info.dest)

-- labels of blocks are labels of the buffer
below_more : (blocks n : ℕ) (hs : List TryHandler) → blocks ≤ n → labels_cause blocks (map (λ (h : TryHandler). h.label) hs) ≡ None → labels_below n hs ≡ true
below_more blocks n [] le none = refl
below_more blocks n (h ∷ hs) le none =
    let own : unless (nat_lt h.label.0 blocks) UnboundLabel ≡ None = first_left _ _ none in
    let below : h.label.0 < blocks = ltb-true h.label.0 blocks (unless_true (nat_lt h.label.0 blocks) UnboundLabel own) in
    let here : nat_lt h.label.0 n ≡ true = lt-ltb h.label.0 n (omega arith) in
    ap (λ t. t && labels_below n hs) here ∙ below_more blocks n hs le (first_right (unless (nat_lt h.label.0 blocks) UnboundLabel) _ none)

pub handlers_none : (s : BufferState) (blocks : ℕ) (hs : List TryHandler) → s.is_poisoned ≡ false → blocks ≤ length s.labels → labels_cause blocks (map (λ (h : TryHandler). h.label) hs) ≡ None → handlers_cause s hs ≡ None
handlers_none s blocks hs free le none =
    ap₂ (λ f b. cond f (Some EmitError.Failed) (cond b None (Some UnboundLabel))) free (below_more blocks (length s.labels) hs le none)

-- ---- what is recorded at a site

pub at_call : (s t : BufferState) → t ≡ record s { call_sites = s.call_sites ++ length s.bytes ∷ [] } → t ≡ apply s (AddSite AtCall)
at_call s t e =
    e ∙ ap (λ l. record s { call_sites = s.call_sites ++ length s.bytes ∷ []; try_call_sites = l }) (sym (append-nil s.try_call_sites))
    ∙ ap (λ l. record s { call_sites = s.call_sites ++ length s.bytes ∷ []; try_call_sites = s.try_call_sites ++ []; patchable_sites = l }) (sym (append-nil s.patchable_sites))
    ∙ ap (λ l. record s { call_sites = s.call_sites ++ length s.bytes ∷ []; try_call_sites = s.try_call_sites ++ []; patchable_sites = s.patchable_sites ++ []; stack_maps = l }) (sym (append-nil s.stack_maps))

-- ---- what a call's results and a tail call's epilogue do to the nominal size

pub load_keeps : (e : Emission) (rd : Reg) (mem : MemArg) (ty : ValueType) (nominal : ℕ) → body_nominal_after nominal (load_or e (load_of rd mem ty)) ≡ nominal
load_keeps e rd mem I8X8 nominal = refl
load_keeps e rd mem ty nominal = refl

keep_append : (a b : List Inst) → AllKeepNominal a → AllKeepNominal b → AllKeepNominal (a ++ b)
keep_append [] b h k = k
keep_append (i ∷ a) b h k = (h.0, keep_append a b h.1 k)

copy_keeps : (dest : CallInstDest) → AllKeepNominal (target_copy dest)
copy_keeps (Direct name) = tt
copy_keeps (Indirect reg) = go (is_lost reg)
  where
    go : (t : Bool) → AllKeepNominal (cond t (Mov64 (Real (general 1)) reg ∷ []) [])
    go true = (λ m. refl, tt)
    go false = tt

floats_keep : (start k : ℕ) (ns : List ℕ) → AllKeepNominal (float_loads start k ns)
floats_keep start k [] = tt
floats_keep start k (n ∷ ns) = (λ m. refl, floats_keep start (k + 1) ns)

general_keeps : (caller : ℕ) (first : Option ℕ) → AllKeepNominal (general_load caller first)
general_keeps caller None = tt
general_keeps caller (Some g) = (λ m. refl, tt)

pub epilogue_keeps : (layout : FrameLayout) (popped : ℕ) (dest : CallInstDest) → AllKeepNominal (epilogue layout popped dest)
epilogue_keeps layout popped dest =
    let floats = float_loads (floats_at layout) 0 (saved_floats layout.saved_fprs) in
    let generals = general_load (caller_at layout) layout.first_saved_gpr in
    let raise = LoadAddr (Real (general 15)) (above_stack (pos (caller_at layout + layout.tail_args_size) -ℤ pos popped)) ∷ [] in
    let copy = target_copy dest in
    keep_append (copy ++ floats ++ generals) raise
    (keep_append (copy ++ floats) generals
    (keep_append copy floats (copy_keeps dest) (floats_keep (floats_at layout) 0 (saved_floats layout.saved_fprs))) (general_keeps (caller_at layout) layout.first_saved_gpr)) (λ m. refl, tt)

-- ---- a tail call's target

-- where a target that can be called stands before the jump, it can be called
pub jump_is_target : (dest : CallInstDest) → is_target dest ≡ true → is_target (jump_target dest) ≡ true
jump_is_target (Direct name) valid = refl
jump_is_target (Indirect reg) valid = go (is_lost reg)
  where
    go : (t : Bool) → is_target (copied_or (cond t (Some (Real (general 1))) None) (Indirect reg)) ≡ true
    go true = refl
    go false = valid

-- ---- sizes

sites_size : (ss : List Site) → parts_size (site_parts ss) ≡ 0
sites_size [] = refl
sites_size (s ∷ ss) = omega (arith, sites_size ss)

pub call_part_size : (link : Reg) (dest : CallInstDest) → part_size (call_part link dest) ≡ call_size dest
unfolding length_of
call_part_size link (Direct name) = refl
call_part_size link (Indirect reg) = refl

pub call_step_size : (e : Emission) (link : Reg) (info : CallInfo) → step_size (CallingStep (calling e link info)) ≡ call_size info.dest
call_step_size e link info =
    let size = call_part_size link info.dest in
    let none = sites_size (sites_of e info) in
    omega (arith, size, none)

pub tail_part_size : (dest : CallInstDest) → part_size (tail_part dest) ≡ call_size dest
unfolding length_of
tail_part_size (Direct name) = refl
tail_part_size (Indirect reg) = refl

-- what the check let pass of a call
pub record CallPassed (s : BufferState) (link : Reg) (info : CallInfo) (e : Emission) : Type 0 where
  pub put : put_cause s (call_size info.dest) ≡ None
  pub blocks : s.block_count ≤ length s.labels
  pub links : is_general link ≡ true
  pub target : is_target info.dest ≡ true
  pub labels : labels_cause s.block_count (site_labels (sites_of e info)) ≡ None

pub call_passed : (s : BufferState) (after depth : ℕ) (e : Emission) (link : Reg) (info : CallInfo) → MembersFit s after depth (step_size (CallingStep (calling e link info))) (call_cause s.block_count e.nominal depth (calling e link info)) → CallPassed s link info e
call_passed s after depth e link info p =
    let registers = unless (is_general link && is_target info.dest) BadRegister in
    let both = and_parts (is_general link) (is_target info.dest) (unless_true (is_general link && is_target info.dest) BadRegister (first_left registers _ p.passed)) in
    let later = first_right registers _ p.passed in
    record {
      put = put_none s (call_size info.dest) p.unpoisoned (omega (arith, p.short, call_step_size e link info));
      blocks = p.blocks;
      links = both.0;
      target = both.1;
      labels = first_right (unless (nat_eq info.callee_pop_size e.nominal && (nat_eq info.callee_pop_size 0 || nat_eq depth 0)) BadStackState) _ later;
    }
