-- The tree of a loop's members is that of its list; a member comes before those behind it.
use Rattle.std.proofs.Common.{◌≡◌, ℕ, suc, ◌+◌, ◌<◌, Bool, true, false, cond, Option, Some, None, List, [], ◌∷◌, ◌++◌, length, get_or, drop, drop-cons, refl, sym, ap, ◌∙◌, Vec, Global, arith}
use Rattle.std.specs.Prelude.{pos, ◌-ℤ◌}
use Rattle.s390x_typed_steps.specs.Tree.{StepBody, Tree, Whole, empty, leaf, leaves, loop_node, prepend, row_tree, tree, block_tree}
use Rattle.s390x_base.specs.declared.ir.ValueType.{ValueType}
use Rattle.s390x_base.specs.declared.ir.ValueType.TheVariants.{I8X8}
use Rattle.s390x_base.specs.Registers.{general}
use Rattle.s390x_base.specs.declared.regs.Reg.{Reg}
use Rattle.s390x_base.specs.declared.regs.Reg.TheVariants.{Real}
use Rattle.s390x_inst.specs.Constructors.{load_of}
use Rattle.s390x_inst.specs.Frames.{is_lost, target_copy, saved_floats, float_loads, general_load, floats_at, caller_at, epilogue, above_stack}
use Rattle.s390x_inst.specs.declared.args.MemArg.{MemArg}
use Rattle.s390x_inst.specs.declared.args.MemArg.TheVariants.{OutgoingArgOffset}
use Rattle.s390x_inst.specs.declared.calls.CallInfo.{CallInfo}
use Rattle.s390x_inst.specs.declared.calls.CallInstDest.{CallInstDest}
use Rattle.s390x_inst.specs.declared.calls.CallInstDest.TheVariants.{Direct, Indirect}
use Rattle.s390x_inst.specs.declared.calls.CallRetPair.{CallRetPair}
use Rattle.s390x_inst.specs.declared.calls.RetLocation.{RetLocation}
use Rattle.s390x_inst.specs.declared.calls.RetLocation.TheVariants.{Stack}
use Rattle.s390x_inst.specs.declared.calls.ReturnCallInfo.{ReturnCallInfo}
use Rattle.s390x_inst.specs.declared.calls.TryCallInfo.{TryCallInfo}
use Rattle.s390x_inst.specs.declared.state.FrameLayout.{FrameLayout}
use Rattle.s390x_typed_steps.specs.Calls.{wholes, load_or, load_before, load_bodies, behind_call, result_bodies, continuation_bodies, bodies, safepoint, without_map}
use Rattle.s390x_typed_steps.specs.Resolved.{resolved_instruction}
use Rattle.s390x_typed_steps.specs.Stack.{nominal_after, state_after}
use Rattle.s390x_typed_steps.specs.Causes.{body_nominal_after, fresh_labels, nominal_behind}
use Rattle.s390x_typed_steps.specs.Sizes.{body_size, tree_size}
use Rattle.s390x_inst.specs.Emission.{Emission}
use Rattle.s390x_inst.specs.declared.inst.Inst.{Inst, Row_of-Inst, end_of-Inst, more_of-Inst, items-the_row-Inst, items_hidden-the_row-Inst-0, roll-out-Inst}
use Rattle.s390x_inst.specs.declared.inst.Inst.TheVariants as I
use Rattle.s390x_inst.specs.declared.inst.Inst.TheBlock.{hidden-the_row-Inst-0}
use Rattle.s390x_inst.specs.declared.inst.Inst.TheViews as V

pub row-tree : (e : Emission) {n : _} (k : Row_of-Inst n) → row_tree e k ≡ tree e (items-the_row-Inst n k)
row-tree e end_of-Inst = refl
row-tree e (more_of-Inst i rest) = ap (λ t. prepend e i t) (row-tree (state_after e i) rest)

pub prepend_loop : (e : Emission) (i : Inst) (mask : ℕ) (v : Vec Inst Global) (s : List Inst) (rest : Tree) → i ≡ V.Loop mask v → s ≡ v.items → prepend e i rest ≡ loop_node mask (tree (without_map e) s) rest
prepend_loop e i mask v s rest is at =
    ap (λ j. prepend e j rest) is
    ∙ ap (λ t. loop_node mask t rest) (row-tree (without_map e) (hidden-the_row-Inst-0 v) ∙ ap (tree (without_map e)) (items_hidden-the_row-Inst-0 v) ∙ ap (tree (without_map e)) (sym at))

-- a member and those behind it
pub behind : (e : Emission) (is : List Inst) (k : ℕ) (i : Inst) → k < length is → i ≡ get_or is k i → tree e (drop k is) ≡ prepend e i (tree (state_after e i) (drop (k + 1) is))
behind e is k i lt at =
    let k1 : suc k ≡ k + 1 = omega arith in
    ap (tree e) (drop-cons is k i lt ∙ ap (λ x. x ∷ drop (suc k) is) (sym at) ∙ ap (λ m. i ∷ drop m is) k1)

-- one tree before another
abbrev pub joined : (t u : Tree) → Tree
joined empty u = u
joined (leaf b t) u = leaf b (joined t u)
joined (loop_node mask members t) u = loop_node mask members (joined t u)

leaves_joined : (bs : List StepBody) (rest : Tree) → leaves bs rest ≡ joined (leaves bs empty) rest
leaves_joined [] rest = refl
leaves_joined (b ∷ bs) rest = ap (leaf b) (leaves_joined bs rest)

-- what an instruction becomes stands before the rest
pub prepend_joined : (e : Emission) (i : Inst) (rest : Tree) → prepend e i rest ≡ joined (prepend e i empty) rest
prepend_joined e (I.Loop' mask body all) rest = refl
prepend_joined e i rest = leaves_joined (bodies e i) rest

pub joined_fresh_labels : (t u : Tree) → fresh_labels (joined t u) ≡ fresh_labels t + fresh_labels u
joined_fresh_labels empty u = omega arith
joined_fresh_labels (leaf b t) u = omega (arith, joined_fresh_labels t u)
joined_fresh_labels (loop_node mask members t) u = omega (arith, joined_fresh_labels t u)

zero_plus : (n : ℕ) → n ≡ 0 + n
zero_plus n = omega arith

plus_assoc : (a b c : ℕ) → a + (b + c) ≡ a + b + c
plus_assoc a b c = omega arith

pub joined_size : (t u : Tree) → tree_size (joined t u) ≡ tree_size t + tree_size u
joined_size empty u = zero_plus (tree_size u)
joined_size (leaf b t) u = ap (λ n. body_size b + n) (joined_size t u) ∙ plus_assoc (body_size b) (tree_size t) (tree_size u)
joined_size (loop_node mask members t) u = omega (arith, joined_size t u)

pub joined_behind : (nominal : ℕ) (t u : Tree) → nominal_behind nominal (joined t u) ≡ nominal_behind (nominal_behind nominal t) u
joined_behind nominal empty u = refl
joined_behind nominal (leaf b t) u = joined_behind (body_nominal_after nominal b) t u
joined_behind nominal (loop_node mask members t) u = joined_behind nominal t u

-- an instruction does to the nominal size what it does without frame operands
pub nominal_resolved : (e : Emission) (nominal : ℕ) (i : Inst) → nominal_after nominal (resolved_instruction e i) ≡ nominal_after nominal i
nominal_resolved e nominal (I.AllocateArgs size) = refl
nominal_resolved e nominal i = refl

-- ---- a block, whose calls are safepoints

pub block_behind : (e : Emission) (is : List Inst) (k : ℕ) (i : Inst) → k < length is → i ≡ get_or is k i → block_tree e (drop k is) ≡ prepend (safepoint e i) i (block_tree (state_after e i) (drop (k + 1) is))
block_behind e is k i lt at =
    let k1 : suc k ≡ k + 1 = omega arith in
    ap (block_tree e) (drop-cons is k i lt ∙ ap (λ x. x ∷ drop (suc k) is) (sym at) ∙ ap (λ m. i ∷ drop m is) k1)

-- ---- steps before others

-- the nominal size behind them
abbrev pub behind_bodies : (nominal : ℕ) → List StepBody → ℕ
behind_bodies m [] = m
behind_bodies m (b ∷ bs) = behind_bodies (body_nominal_after m b) bs

leaves_behind : (m : ℕ) (bs : List StepBody) → nominal_behind m (leaves bs empty) ≡ behind_bodies m bs
leaves_behind m [] = refl
leaves_behind m (b ∷ bs) = leaves_behind (body_nominal_after m b) bs

behind_append : (m : ℕ) (a b : List StepBody) → behind_bodies m (a ++ b) ≡ behind_bodies (behind_bodies m a) b
behind_append m [] b = refl
behind_append m (x ∷ a) b = behind_append (body_nominal_after m x) a b

-- ---- which steps leave the nominal size

load_keeps : (e : Emission) (rd : Reg) (mem : MemArg) (ty : ValueType) (m : ℕ) → body_nominal_after m (load_or e (load_of rd mem ty)) ≡ m
load_keeps e rd mem I8X8 m = refl
load_keeps e rd mem ty m = refl

loads_keep : (e : Emission) (ds : List CallRetPair) (m : ℕ) → behind_bodies m (load_bodies e ds) ≡ m
loads_keep e [] m = refl
loads_keep e (d ∷ ds) m = go d.location (loads_keep e ds m)
  where
    go : (l : RetLocation) → behind_bodies m (load_bodies e ds) ≡ m → behind_bodies m (load_before e d.vreg l (load_bodies e ds)) ≡ m
    go (Stack off ty) later = ap (λ n. behind_bodies n (load_bodies e ds)) (load_keeps e d.vreg (OutgoingArgOffset off) ty m) ∙ later
    go l later = later

results_keep : (e : Emission) (info : CallInfo) (m : ℕ) → behind_bodies m (result_bodies e info) ≡ m
results_keep e info m = go info.patchable
  where
    go : (p : Bool) → behind_bodies m (cond p [] (load_bodies (behind_call e info.callee_pop_size) info.defs.items)) ≡ m
    go true = refl
    go false = loads_keep (behind_call e info.callee_pop_size) info.defs.items m

continuation_keeps : (t : Option TryCallInfo) (m : ℕ) → behind_bodies m (continuation_bodies t) ≡ m
continuation_keeps None m = refl
continuation_keeps (Some t) m = refl

-- whole instructions that leave it
abbrev AllKeep : List Inst → Type 0
AllKeep [] = Unit {0}
AllKeep (i ∷ is) = ((e : Emission) (m : ℕ) → nominal_after m (resolved_instruction e i) ≡ m) × AllKeep is

keep_append : (a b : List Inst) → AllKeep a → AllKeep b → AllKeep (a ++ b)
keep_append [] b h k = k
keep_append (i ∷ a) b h k = (h.0, keep_append a b h.1 k)

wholes_keep : (e : Emission) (is : List Inst) (m : ℕ) → AllKeep is → behind_bodies m (wholes e is) ≡ m
wholes_keep e [] m h = refl
wholes_keep e (i ∷ is) m h = ap (λ n. behind_bodies n (wholes e is)) (h.0 e m) ∙ wholes_keep e is m h.1

copy_keeps : (dest : CallInstDest) → AllKeep (target_copy dest)
copy_keeps (Direct name) = tt
copy_keeps (Indirect reg) = go (is_lost reg)
  where
    go : (t : Bool) → AllKeep (cond t (I.Mov64 (Real (general 1)) reg ∷ []) [])
    go true = (λ e m. refl, tt)
    go false = tt

floats_keep : (start k : ℕ) (ns : List ℕ) → AllKeep (float_loads start k ns)
floats_keep start k [] = tt
floats_keep start k (n ∷ ns) = (λ e m. refl, floats_keep start (k + 1) ns)

general_keeps : (caller : ℕ) (first : Option ℕ) → AllKeep (general_load caller first)
general_keeps caller None = tt
general_keeps caller (Some g) = (λ e m. refl, tt)

epilogue_keeps : (layout : FrameLayout) (popped : ℕ) (dest : CallInstDest) → AllKeep (epilogue layout popped dest)
epilogue_keeps layout popped dest =
    let floats = float_loads (floats_at layout) 0 (saved_floats layout.saved_fprs) in
    let generals = general_load (caller_at layout) layout.first_saved_gpr in
    let raise = I.LoadAddr (Real (general 15)) (above_stack (pos (caller_at layout + layout.tail_args_size) -ℤ pos popped)) ∷ [] in
    let copy = target_copy dest in
    keep_append (copy ++ floats ++ generals) raise
    (keep_append (copy ++ floats) generals
    (keep_append copy floats (copy_keeps dest) (floats_keep (floats_at layout) 0 (saved_floats layout.saved_fprs))) (general_keeps (caller_at layout) layout.first_saved_gpr)) (λ e m. refl, tt)

behind_call_bodies : (e : Emission) (m : ℕ) (link : Reg) (info : CallInfo) → behind_bodies m (bodies e (I.Call link info)) ≡ nominal_after m (I.Call link info)
behind_call_bodies e m link info =
    let n = nominal_after m (I.Call link info) in
    behind_append n (result_bodies e info) (continuation_bodies info.try_call_info)
    ∙ ap (λ k. behind_bodies k (continuation_bodies info.try_call_info)) (results_keep e info n)
    ∙ continuation_keeps info.try_call_info n

behind_tail_bodies : (e : Emission) (m : ℕ) (info : ReturnCallInfo CallInstDest) → behind_bodies m (bodies e (I.ReturnCall info)) ≡ m
behind_tail_bodies e m info =
    behind_append m (wholes e (epilogue e.layout info.callee_pop_size info.dest)) _
    ∙ wholes_keep e (epilogue e.layout info.callee_pop_size info.dest) m (epilogue_keeps e.layout info.callee_pop_size info.dest)

-- the nominal size behind the steps of an instruction
pub bodies_behind : (e : Emission) (m : ℕ) (i : Inst) → behind_bodies m (bodies e i) ≡ nominal_after m i
bodies_behind e m (I.Call link info) = behind_call_bodies e m link info
bodies_behind e m (I.ReturnCall info) = behind_tail_bodies e m info
bodies_behind e m i = nominal_resolved e m i

pub prepend_nominal : (e : Emission) (nominal : ℕ) (i : Inst) → nominal_behind nominal (prepend e i empty) ≡ nominal_after nominal i
prepend_nominal e nominal (I.Loop' mask body all) = refl
prepend_nominal e nominal i = leaves_behind nominal (bodies e i) ∙ bodies_behind e nominal i

-- an instruction that is no `Loop` is its steps
pub not_loop : (e : Emission) (i : Inst) (rest : Tree) → ((m : ℕ) (v : Vec Inst Global) → i ≡ V.Loop m v → ⊥) → prepend e i rest ≡ leaves (bodies e i) rest
unfolding V.roll-Inst denote.Hole.Carrier.roll V.out-Inst denote.Hole.Carrier.out
not_loop e (I.Loop' mask body all) rest h = absurd (h mask _ (sym (roll-out-Inst (I.Loop' mask body all))))
not_loop e i rest h = refl

-- one that is no call either is one step
pub one_body : (e : Emission) (i : Inst) → ((link : Reg) (info : CallInfo) → i ≡ I.Call link info → ⊥) → ((info : ReturnCallInfo CallInstDest) → i ≡ I.ReturnCall info → ⊥) → bodies e i ≡ Whole (resolved_instruction e i) ∷ []
one_body e (I.Call link info) h k = absurd (h link info refl)
one_body e (I.ReturnCall info) h k = absurd (k info refl)
one_body e i h k = refl
