-- The steps of an instruction, counted.
use Rattle.std.proofs.Common.{◌≡◌, ℕ, ◌+◌, ◌<◌, suc, Bool, true, false, cond, List, [], ◌∷◌, ◌++◌, length, get_or, drop, min, Option, Some, None, is_some, refl, sym, ap, subst, ◌∙◌, arith, Vec, Global}
use Rattle.std.proofs.lemmas.List.{drop-drop, drop_min, length-append}
use Rattle.s390x_base.specs.declared.regs.Reg.{Reg}
use Rattle.s390x_inst.specs.Emission.{Emission}
use Rattle.s390x_inst.specs.Frames.{caller_at, epilogue, float_loads, floats_at, general_load, saved_floats, target_copy}
use Rattle.s390x_inst.specs.declared.calls.CallInfo.{CallInfo}
use Rattle.s390x_inst.specs.declared.calls.CallInstDest.{CallInstDest}
use Rattle.s390x_inst.specs.declared.calls.CallRetPair.{CallRetPair}
use Rattle.s390x_inst.specs.declared.calls.RetLocation.{RetLocation}
use Rattle.s390x_inst.specs.declared.calls.RetLocation.TheVariants as location
use Rattle.s390x_inst.specs.declared.calls.ReturnCallInfo.{ReturnCallInfo}
use Rattle.s390x_inst.specs.declared.calls.TryCallInfo.{TryCallInfo}
use Rattle.s390x_inst.specs.declared.inst.Inst.{Inst, Row_of-Inst, end_of-Inst, more_of-Inst, items-the_row-Inst, items_hidden-the_row-Inst-0, out-Inst, roll-Inst, roll-out-Inst}
use Rattle.s390x_inst.specs.declared.inst.Inst.TheBlock.{hidden-the_row-Inst-0}
use Rattle.s390x_inst.specs.declared.inst.Inst.TheOpen as O
use Rattle.s390x_inst.specs.declared.inst.Inst.TheViews as V
use Rattle.s390x_inst.specs.declared.inst.Inst.TheVariants.{Loop', Call, ReturnCall}
use Rattle.s390x_inst.specs.declared.state.FrameLayout.{FrameLayout}
use denote.Hole.Carrier
use Rattle.s390x_typed_steps.specs.Calls.{behind_call, bodies, jump_target, call_bodies, continuation_bodies, load_before, load_bodies, result_bodies, tail_bodies, wholes, without_map}
use Rattle.s390x_typed_steps.specs.Stack.{state_after}
use Rattle.s390x_typed_steps.specs.StepBody.{StepBody, TailJump}
use Rattle.s390x_typed_steps.specs.Steps.{step_count}
use Rattle.s390x_typed_steps.specs.Tree.{Tree, empty, leaves, prepend, row_tree}
use Rattle.s390x_binary_tool.specs.InstSteps.{call_count, load_count, loads_count, steps_of, steps_of_all}

-- ---- lists of starts

-- one more element, for which some starts are left away
pub drops_went : {A : Type 0} (count : A → ℕ) (counts : List A → ℕ) → ((x : A) (xs : List A) → counts (x ∷ xs) ≡ count x + counts xs) → (xs : List A) (i : ℕ) (d : A) (left behind all : List ℕ)
    → drop i xs ≡ d ∷ drop (i + 1) xs → behind ≡ drop (count d) left → drop (counts (drop i xs)) left ≡ all → drop (counts (drop (i + 1) xs)) behind ≡ all
drops_went count counts more xs i d left behind all e b inv =
    ap (λ l. drop (counts (drop (i + 1) xs)) l) b
    ∙ drop-drop (counts (drop (i + 1) xs)) (count d) left
    ∙ ap (λ n. drop n left) (sym (ap counts e ∙ more d (drop (i + 1) xs)))
    ∙ inv

-- as many as there are
pub at_most : (n : ℕ) (starts : List ℕ) → drop (min n (length starts)) starts ≡ drop n starts
at_most n starts = drop_min n starts

-- ---- sums

one_more : (m n : ℕ) → m ≡ n → suc m ≡ 1 + n
one_more m n e = omega (arith, e)

two_sums : (a b c d : ℕ) → a ≡ c → b ≡ d → a + b ≡ c + d
two_sums a b c d p q = omega (arith, p, q)

tail_sum : (m w n : ℕ) → m ≡ w + 1 → w ≡ n → suc m ≡ 2 + n
tail_sum m w n p q = omega (arith, p, q)

last_sum : (a b c d : ℕ) → c ≡ d → a + b + c + 1 ≡ a + b + 0 + 1 + d
last_sum a b c d e = omega (arith, e)

leaf_sum : (a b c d r : ℕ) → a ≡ b + r → c ≡ d + 0 → b ≡ d → a ≡ c + r
leaf_sum a b c d r p q e = omega (arith, p, q, e)

loop_sum : (a b r : ℕ) → a ≡ b → 2 + a + r ≡ 2 + b + 0 + r
loop_sum a b r e = omega (arith, e)

end_sum : (a b : ℕ) → a ≡ b → 2 + a + 0 ≡ 2 + b
end_sum a b e = omega (arith, e)

leaves_sum : (a b r : ℕ) → a ≡ b + r → 1 + a ≡ suc b + r
leaves_sum a b r e = omega (arith, e)

three_sums : (some jump : ℕ) → 1 + some + jump ≡ 1 + (some + jump)
three_sums some jump = omega arith

zero_plus : (n : ℕ) → n ≡ 0 + n
zero_plus n = omega arith

plus_zero : (n : ℕ) → n + 0 ≡ n
plus_zero n = omega arith

-- ---- calls

load_length : (e : Emission) (rd : Reg) (at : RetLocation) (rest : List StepBody) → length (load_before e rd at rest) ≡ load_count at + length rest
load_length e rd (location.Stack off ty) rest = one_more (length rest) (length rest) refl
load_length e rd (location.Reg reg ty) rest = zero_plus (length rest)

loads_length : (e : Emission) (ds : List CallRetPair) → length (load_bodies e ds) ≡ loads_count ds
loads_length e [] = refl
loads_length e (d ∷ ds) = load_length e d.vreg d.location (load_bodies e ds) ∙ ap (λ n. load_count d.location + n) (loads_length e ds)

chosen_length : (skipped : Bool) (bs : List StepBody) (n : ℕ) → length bs ≡ n → length (cond skipped [] bs) ≡ cond skipped 0 n
chosen_length true bs n e = refl
chosen_length false bs n e = e

jump_length : (t : Option TryCallInfo) → length (continuation_bodies t) ≡ cond (is_some t) 1 0
jump_length None = refl
jump_length (Some t) = refl

-- a call's steps
pub call_length : (e : Emission) (link : Reg) (info : CallInfo) → length (call_bodies e link info) ≡ call_count info
call_length e link info =
    let loads = chosen_length info.patchable (load_bodies (behind_call e info.callee_pop_size) info.defs.items) (loads_count info.defs.items) (loads_length (behind_call e info.callee_pop_size) info.defs.items) in
    one_more (length (result_bodies e info ++ continuation_bodies info.try_call_info)) (cond info.patchable 0 (loads_count info.defs.items) + cond (is_some info.try_call_info) 1 0)
    (length-append (result_bodies e info) (continuation_bodies info.try_call_info) ∙ two_sums _ _ _ _ loads (jump_length info.try_call_info))

-- ---- tail calls

wholes_length : (e : Emission) (is : List Inst) → length (wholes e is) ≡ length is
wholes_length e [] = refl
wholes_length e (i ∷ is) = ap suc (wholes_length e is)

general_length : (caller : ℕ) (first : Option ℕ) → length (general_load caller first) ≡ cond (is_some first) 1 0
general_length caller None = refl
general_length caller (Some g) = refl

joined_length : (copy floats loads : List Inst) (last : Inst) → length (copy ++ floats ++ loads ++ last ∷ []) ≡ length copy + length floats + length loads + 1
joined_length copy floats loads last =
    length-append (copy ++ floats ++ loads) (last ∷ []) ∙ ap (λ n. n + 1) (length-append (copy ++ floats) loads ∙ ap (λ n. n + length loads) (length-append copy floats))

epilogue_parts : (layout : FrameLayout) (popped : ℕ) (dest : CallInstDest) → length (epilogue layout popped dest)
    ≡ length (target_copy dest) + length (float_loads (floats_at layout) 0 (saved_floats layout.saved_fprs)) + length (general_load (caller_at layout) layout.first_saved_gpr) + 1
epilogue_parts layout popped dest =
    joined_length (target_copy dest) (float_loads (floats_at layout) 0 (saved_floats layout.saved_fprs)) (general_load (caller_at layout) layout.first_saved_gpr) _

-- what takes a frame down, with the load of general registers and without it
pub epilogue_length : (layout : FrameLayout) (popped : ℕ) (dest : CallInstDest)
    → length (epilogue layout popped dest) ≡ length (epilogue (record layout { first_saved_gpr = None }) popped dest) + cond (is_some layout.first_saved_gpr) 1 0
epilogue_length layout popped dest =
    epilogue_parts layout popped dest
    ∙ last_sum (length (target_copy dest)) (length (float_loads (floats_at layout) 0 (saved_floats layout.saved_fprs))) _ _ (general_length (caller_at layout) layout.first_saved_gpr)
    ∙ ap (λ n. n + cond (is_some layout.first_saved_gpr) 1 0) (sym (epilogue_parts (record layout { first_saved_gpr = None }) popped dest))

-- a tail call's steps
pub tail_length : (e : Emission) (popped : ℕ) (dest : CallInstDest) → length (tail_bodies e popped dest) ≡ 2 + length (epilogue e.layout popped dest)
tail_length e popped dest =
    let down = epilogue e.layout popped dest in
    tail_sum (length (wholes e down ++ TailJump (jump_target dest) ∷ [])) (length (wholes e down)) (length down) (length-append (wholes e down) (TailJump (jump_target dest) ∷ [])) (wholes_length e down)

-- the starts behind them
pub tail_drops : (layout : FrameLayout) (popped n : ℕ) (dest : CallInstDest) (starts others all : List ℕ) → n ≡ length (epilogue (record layout { first_saved_gpr = None }) popped dest)
    → others ≡ drop n (drop 2 starts) → all ≡ drop (cond (is_some layout.first_saved_gpr) 1 0) others → all ≡ drop (2 + length (epilogue layout popped dest)) starts
tail_drops layout popped n dest starts others all c o a =
    let last = cond (is_some layout.first_saved_gpr) 1 0 in
    a ∙ ap (drop last) (o ∙ drop-drop n 2 starts) ∙ drop-drop last (2 + n) starts
    ∙ ap (λ k. drop k starts) (omega (arith, ap (λ k. 2 + k + last) c, epilogue_length layout popped dest))

pub call_drops : (info : CallInfo) (starts call loads all : List ℕ) → call ≡ drop 1 starts → loads ≡ drop (cond info.patchable 0 (loads_count info.defs.items)) call
    → all ≡ drop (cond (is_some info.try_call_info) 1 0) loads → all ≡ drop (call_count info) starts
call_drops info starts call loads all c l a =
    let some = cond info.patchable 0 (loads_count info.defs.items) in
    let jump = cond (is_some info.try_call_info) 1 0 in
    a ∙ ap (drop jump) (l ∙ ap (drop some) c ∙ drop-drop some 1 starts) ∙ drop-drop jump (1 + some) starts ∙ ap (λ k. drop k starts) (three_sums some jump)

pub loop_drops : (n : ℕ) (starts left : List ℕ) → left ≡ drop n (drop 2 starts) → left ≡ drop (2 + n) starts
loop_drops n starts left l = l ∙ drop-drop n 2 starts

-- ---- any instruction: a count depends on the frame's layout alone

leaves_count : (bs : List StepBody) (rest : Tree) → step_count (leaves bs rest) ≡ length bs + step_count rest
leaves_count [] rest = zero_plus (step_count rest)
leaves_count (b ∷ bs) rest = leaves_sum (step_count (leaves bs rest)) (length bs) (step_count rest) (leaves_count bs rest)

tails_alike : (e f : Emission) (popped : ℕ) (dest : CallInstDest) → e.layout ≡ f.layout → length (tail_bodies e popped dest) ≡ length (tail_bodies f popped dest)
tails_alike e f popped dest same =
    tail_length e popped dest ∙ ap (λ (l : FrameLayout). 2 + length (epilogue l popped dest)) same ∙ sym (tail_length f popped dest)

leaf_counts : (bs cs : List StepBody) (rest : Tree) → length bs ≡ length cs → step_count (leaves bs rest) ≡ step_count (leaves cs empty) + step_count rest
leaf_counts bs cs rest same = leaf_sum (step_count (leaves bs rest)) (length bs) (step_count (leaves cs empty)) (length cs) (step_count rest) (leaves_count bs rest) (leaves_count cs empty) same

mutual
  prepended : (e f : Emission) (i : Inst) (rest : Tree) → e.layout ≡ f.layout → step_count (prepend e i rest) ≡ steps_of f i + step_count rest
  prepended e f (Loop' mask body all) rest same =
      loop_sum (step_count (row_tree (without_map e) all)) (step_count (row_tree (without_map f) all)) (step_count rest) (members_alike (without_map e) (without_map f) all same)
  prepended e f (Call link info) rest same = leaf_counts (call_bodies e link info) (call_bodies f link info) rest (call_length e link info ∙ sym (call_length f link info))
  prepended e f (ReturnCall info) rest same =
      leaf_counts (tail_bodies e info.callee_pop_size info.dest) (tail_bodies f info.callee_pop_size info.dest) rest (tails_alike e f info.callee_pop_size info.dest same)
  prepended e f i rest same = refl

  members_alike : (e f : Emission) {m : _} (r : Row_of-Inst m) → e.layout ≡ f.layout → step_count (row_tree e r) ≡ step_count (row_tree f r)
  members_alike e f end_of-Inst same = refl
  members_alike e f (more_of-Inst i rest) same =
      prepended e f i (row_tree (state_after e i) rest) same
      ∙ ap (λ n. steps_of f i + n) (members_alike (state_after e i) (state_after f i) rest same)
      ∙ sym (prepended f f i (row_tree (state_after f i) rest) refl)

-- the members of a loop, by the list of them
members_count : (e f : Emission) {m : _} (r : Row_of-Inst m) → e.layout ≡ f.layout → step_count (row_tree e r) ≡ steps_of_all f (items-the_row-Inst m r)
members_count e f end_of-Inst same = refl
members_count e f (more_of-Inst i rest) same =
    prepended e f i (row_tree (state_after e i) rest) same ∙ ap (λ n. steps_of f i + n) (members_count (state_after e i) f rest same)

loop_count : (e : Emission) (c : ℕ) (v : Vec Inst Global) → steps_of e (V.Loop c v) ≡ 2 + steps_of_all e v.items
loop_count e c v =
    let all = hidden-the_row-Inst-0 v in
    end_sum (step_count (row_tree (without_map e) all)) (steps_of_all e v.items) (members_count (without_map e) e all refl ∙ ap (steps_of_all e) (items_hidden-the_row-Inst-0 v))

pub whole_loop : (e : Emission) (i : Inst) (c : ℕ) (v : Vec Inst Global) (s : List Inst) → i ≡ V.Loop c v → s ≡ v.items → steps_of e i ≡ 2 + steps_of_all e s
whole_loop e i c v s p q = ap (steps_of e) p ∙ loop_count e c v ∙ ap (λ l. 2 + steps_of_all e l) (sym q)

plain_out : (e : Emission) (x : O.Inst-F Inst) → ((c : ℕ) (v : Vec Inst Global) → x ≡ O.Loop c v → ⊥) → steps_of e (roll-Inst x) ≡ length (bodies e (roll-Inst x))
unfolding roll-Inst Carrier.roll
plain_out e (O.Loop c v) h = absurd (h c v refl)
plain_out e x h = leaves_count (bodies e (roll-Inst x)) empty ∙ plus_zero (length (bodies e (roll-Inst x)))

-- another instruction is its bodies
pub plain : (e : Emission) (i : Inst) → ((c : ℕ) (v : Vec Inst Global) → i ≡ V.Loop c v → ⊥) → steps_of e i ≡ length (bodies e i)
plain e i h =
    subst (λ j. steps_of e j ≡ length (bodies e j)) (roll-out-Inst i) (plain_out e (out-Inst i) (λ c v p. h c v (sym (roll-out-Inst i) ∙ ap roll-Inst p ∙ V.rolls-Loop c v)))
