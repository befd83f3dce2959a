-- A loop, a call or a tail call has no row for its text only where a step of it has none for its bytes, and there it has no text.
use Rattle.std.proofs.Common.{◌≡◌, ℕ, ◌+◌, Bool, true, false, not, ◌&&◌, nat_lt, List, [], ◌∷◌, ◌++◌, Option, Some, None, is_some, refl, sym, ap, subst, ◌∙◌, true≢false}
use Rattle.std.specs.Prelude.{cond}
use Rattle.s390x_base.specs.declared.regs.Reg.{Reg}
use Rattle.s390x_inst.specs.Emission.{Emission}
use Rattle.s390x_inst.specs.Constructors.{load_of}
use Rattle.s390x_inst.specs.Frames.{epilogue}
use Rattle.s390x_inst.specs.declared.args.MemArg.TheVariants.{OutgoingArgOffset}
use Rattle.s390x_inst.specs.declared.calls.CallInfo.{CallInfo}
use Rattle.s390x_inst.specs.declared.calls.CallInstDest.{CallInstDest}
use Rattle.s390x_inst.specs.declared.calls.CallRetPair.{CallRetPair}
use Rattle.s390x_inst.specs.declared.calls.RetLocation.{RetLocation}
use Rattle.s390x_inst.specs.declared.calls.RetLocation.TheVariants.{Stack}
use Rattle.s390x_inst.specs.declared.calls.ReturnCallInfo.{ReturnCallInfo}
use Rattle.s390x_inst.specs.declared.calls.TryCallInfo.{TryCallInfo}
use Rattle.s390x_inst.specs.declared.inst.Inst.{Inst, Row_of-Inst, end_of-Inst, more_of-Inst}
use Rattle.s390x_inst.specs.declared.inst.Inst.TheVariants.{Call, Loop', ReturnCall}
use Rattle.s390x_inst.specs.declared.state.IsaFlags.{IsaFlags}
use Rattle.s390x_typed_steps.specs.Calls.{behind_call, call_bodies, continuation_bodies, is_first_saved, jump_target, load_before, load_bodies, load_or, result_bodies, tail_bodies, without_map, wholes}
use Rattle.s390x_typed_steps.specs.Resolved.{resolved_instruction}
use Rattle.s390x_typed_steps.specs.Stack.{state_after}
use Rattle.s390x_typed_steps.specs.Tree.{StepBody, Tree, Whole, TailJump, empty, leaves, prepend, row_tree}
use Rattle.s390x_text_rows.specs.Simple.{simple_text, unbuilt}
use Rattle.s390x_text_rows.specs.Texts.{first_cause, fixed_text}
use Rattle.s390x_text_rows.specs.declared.error.TextError.{TextError}
use Rattle.s390x_text_rows.specs.declared.error.TextError.TheVariants.{NoRow}
use Rattle.s390x_text.specs.Agreement.{has_row_text}
use Rattle.s390x_text.specs.Calls.{epilogue_text, is_first_saved as has_epilogue, loaded_text, loads_text, plain_call_text, result_at, results_text, simple_texts, tail_call_text}
use Rattle.s390x_text.specs.Instructions.{after, inst_text, nesting_cause, row_after, row_text}
use Rattle.s390x_text.specs.Rows.{AgreesInOrder, body_has_rows, has_rows, tree_has_rows}
use Rattle.s390x_text.proofs.RowAgreement.{resolved_rows, simple_rows, unless_row}

-- ---- causes in order

refused_some : (cause : Option TextError) → has_row_text cause ≡ false → is_some cause ≡ true
refused_some None h = absurd (true≢false h)
refused_some (Some e) h = refl

-- a cause that agrees by itself
exactly : (cause : Option TextError) (has : Bool) → has_row_text cause ≡ has → AgreesInOrder cause has
exactly cause has e = record { only_there = λ h. sym e ∙ h; refused = λ h. refused_some cause (e ∙ h) }

-- nothing is refused
never : AgreesInOrder None true
never = exactly None true refl

-- one before another
in_order : (a b : Option TextError) (p q : Bool) → AgreesInOrder a p → AgreesInOrder b q → AgreesInOrder (first_cause a b) (p && q)
in_order None b true q h k = k
in_order None b false q h k = absurd (true≢false (sym (h.refused refl)))
in_order (Some e) b true q h k = record { only_there = λ n. absurd (true≢false (h.only_there n)); refused = λ n. refl }
in_order (Some e) b false q h k = record { only_there = λ n. refl; refused = λ n. refl }

and_true : (cause : Option TextError) (p : Bool) → AgreesInOrder cause p → AgreesInOrder cause (p && true)
and_true cause true h = h
and_true cause false h = h

-- ---- lists of bodies

abbrev bodies_have_rows : (blocks depth : ℕ) → List StepBody → Bool
bodies_have_rows blocks depth [] = true
bodies_have_rows blocks depth (b ∷ bs) = body_has_rows blocks depth b && bodies_have_rows blocks depth bs

and_assoc : (a b c : Bool) → (a && b && c) ≡ (a && (b && c))
and_assoc true b c = refl
and_assoc false b c = refl

one_more : (a b : Bool) → (a && b) ≡ (a && true && b)
one_more true b = refl
one_more false b = refl

leaves_rows : (blocks depth : ℕ) (bs : List StepBody) (rest : Tree) → tree_has_rows blocks depth (leaves bs rest) ≡ (bodies_have_rows blocks depth bs && tree_has_rows blocks depth rest)
leaves_rows blocks depth [] rest = refl
leaves_rows blocks depth (b ∷ bs) rest = ap (λ h. body_has_rows blocks depth b && h) (leaves_rows blocks depth bs rest) ∙ sym (and_assoc (body_has_rows blocks depth b) (bodies_have_rows blocks depth bs) (tree_has_rows blocks depth rest))

append_rows : (blocks depth : ℕ) (bs cs : List StepBody) → bodies_have_rows blocks depth (bs ++ cs) ≡ (bodies_have_rows blocks depth bs && bodies_have_rows blocks depth cs)
append_rows blocks depth [] cs = refl
append_rows blocks depth (b ∷ bs) cs = ap (λ h. body_has_rows blocks depth b && h) (append_rows blocks depth bs cs) ∙ sym (and_assoc (body_has_rows blocks depth b) (bodies_have_rows blocks depth bs) (bodies_have_rows blocks depth cs))

same_has : (cause : Option TextError) (p q : Bool) → p ≡ q → AgreesInOrder cause p → AgreesInOrder cause q
same_has cause p q e h = subst (AgreesInOrder cause) e h

behind_bodies : (blocks depth : ℕ) (bs : List StepBody) (rest : Tree) → tree_has_rows blocks depth (leaves bs rest) ≡ (tree_has_rows blocks depth (leaves bs empty) && tree_has_rows blocks depth rest)
behind_bodies blocks depth bs rest =
    leaves_rows blocks depth bs rest ∙ one_more (bodies_have_rows blocks depth bs) (tree_has_rows blocks depth rest) ∙ ap (λ h. h && tree_has_rows blocks depth rest) (sym (leaves_rows blocks depth bs empty))

in_bodies : (blocks depth : ℕ) (cause : Option TextError) (bs : List StepBody) → AgreesInOrder cause (bodies_have_rows blocks depth bs) → AgreesInOrder cause (tree_has_rows blocks depth (leaves bs empty))
in_bodies blocks depth cause bs h = same_has cause (bodies_have_rows blocks depth bs && true) _ (sym (leaves_rows blocks depth bs empty)) (and_true cause (bodies_have_rows blocks depth bs) h)

module _ (blocks depth : ℕ) where
  whole_agrees : (has : Bool) (e before : Emission) (i : Inst) → AgreesInOrder (simple_text has e i).cause (body_has_rows blocks depth (Whole (resolved_instruction before i)))
  whole_agrees has e before i = exactly (simple_text has e i).cause (has_rows blocks depth (resolved_instruction before i)) (simple_rows has e blocks depth i ∙ sym (resolved_rows before blocks depth i))

  -- ---- calls

  loaded_agrees : (e before : Emission) (o : Option Inst) → AgreesInOrder (loaded_text e o).cause (body_has_rows blocks depth (load_or before o))
  loaded_agrees e before None = exactly (Some NoRow) false refl
  loaded_agrees e before (Some i) = whole_agrees true e before i

  result_agrees : (e before : Emission) (rd : Reg) (l : RetLocation) (cause : Option TextError) (rest : List StepBody) → AgreesInOrder cause (bodies_have_rows blocks depth rest) → AgreesInOrder (first_cause (result_at e rd l).cause cause) (bodies_have_rows blocks depth (load_before before rd l rest))
  result_agrees e before rd (Stack off ty) cause rest h = in_order (loaded_text e (load_of rd (OutgoingArgOffset off) ty)).cause cause (body_has_rows blocks depth (load_or before (load_of rd (OutgoingArgOffset off) ty))) (bodies_have_rows blocks depth rest) (loaded_agrees e before (load_of rd (OutgoingArgOffset off) ty)) h
  result_agrees e before rd _ cause rest h = h

  results_agree : (e before : Emission) (ds : List CallRetPair) → AgreesInOrder (results_text e ds).cause (bodies_have_rows blocks depth (load_bodies before ds))
  results_agree e before [] = never
  results_agree e before (d ∷ ds) = result_agrees e before d.vreg d.location (results_text e ds).cause (load_bodies before ds) (results_agree e before ds)

  loads_agree : (e before : Emission) (info : CallInfo) → AgreesInOrder (loads_text e info).cause (bodies_have_rows blocks depth (result_bodies before info))
  loads_agree e before info = go info.patchable
    where
      go : (t : Bool) → AgreesInOrder (cond t (fixed_text []) (results_text (record e { nominal = 0; outgoing = info.callee_pop_size }) info.defs.items)).cause (bodies_have_rows blocks depth (cond t [] (load_bodies (behind_call before info.callee_pop_size) info.defs.items)))
      go true = never
      go false = results_agree (record e { nominal = 0; outgoing = info.callee_pop_size }) (behind_call before info.callee_pop_size) info.defs.items

  continues : (o : Option TryCallInfo) → bodies_have_rows blocks depth (continuation_bodies o) ≡ true
  continues None = refl
  continues (Some t) = ap (λ h. h && true) (unless_row (nat_lt t.continuation.0 blocks) _ refl)

  call_agrees : (e before : Emission) (link : Reg) (info : CallInfo) → AgreesInOrder (plain_call_text e link info).cause (bodies_have_rows blocks depth (call_bodies before link info))
  call_agrees e before link info =
      let loads = bodies_have_rows blocks depth (result_bodies before info) in
      same_has (first_cause (loads_text e info).cause None) (loads && true) (bodies_have_rows blocks depth (call_bodies before link info))
      (ap (λ h. loads && h) (sym (continues info.try_call_info)) ∙ sym (append_rows blocks depth (result_bodies before info) (continuation_bodies info.try_call_info)))
      (in_order (loads_text e info).cause None loads true (loads_agree e before info) never)

  -- ---- tail calls

  texts_agree : (e before : Emission) (is : List Inst) → AgreesInOrder (simple_texts e is).cause (bodies_have_rows blocks depth (wholes before is))
  texts_agree e before [] = never
  texts_agree e before (i ∷ is) = in_order (simple_text true e i).cause (simple_texts e is).cause (body_has_rows blocks depth (Whole (resolved_instruction before i))) (bodies_have_rows blocks depth (wholes before is)) (whole_agrees true e before i) (texts_agree e before is)

  same_saved : (o : Option ℕ) → has_epilogue o ≡ is_first_saved o
  same_saved None = refl
  same_saved (Some g) = refl

  epilogue_agrees : (e before : Emission) (popped : ℕ) (dest : CallInstDest) → e.layout ≡ before.layout → AgreesInOrder (epilogue_text e popped dest).cause (is_first_saved before.layout.first_saved_gpr && bodies_have_rows blocks depth (wholes before (epilogue before.layout popped dest)))
  epilogue_agrees e before popped dest same =
      subst (λ l. AgreesInOrder (epilogue_text e popped dest).cause (is_first_saved l.first_saved_gpr && bodies_have_rows blocks depth (wholes before (epilogue l popped dest)))) same
      (subst (λ t. AgreesInOrder (epilogue_text e popped dest).cause (t && bodies_have_rows blocks depth (wholes before (epilogue e.layout popped dest)))) (same_saved e.layout.first_saved_gpr) (go (has_epilogue e.layout.first_saved_gpr)))
    where
      go : (t : Bool) → AgreesInOrder (cond t (simple_texts e (epilogue e.layout popped dest)) unbuilt).cause (t && bodies_have_rows blocks depth (wholes before (epilogue e.layout popped dest)))
      go true = texts_agree e before (epilogue e.layout popped dest)
      go false = exactly (Some NoRow) false refl

  tail_agrees : (e before : Emission) (info : ReturnCallInfo CallInstDest) → e.layout ≡ before.layout → AgreesInOrder (tail_call_text e info).cause (bodies_have_rows blocks depth (tail_bodies before info.callee_pop_size info.dest))
  tail_agrees e before info same =
      let epi = bodies_have_rows blocks depth (wholes before (epilogue before.layout info.callee_pop_size info.dest)) in
      let saved = is_first_saved before.layout.first_saved_gpr in
      same_has (tail_call_text e info).cause ((saved && epi) && true) (bodies_have_rows blocks depth (tail_bodies before info.callee_pop_size info.dest))
      (and_assoc saved epi true ∙ ap (λ h. saved && h) (sym (append_rows blocks depth (wholes before (epilogue before.layout info.callee_pop_size info.dest)) (TailJump (jump_target info.dest) ∷ []))))
      (in_order (epilogue_text e info.callee_pop_size info.dest).cause None (saved && epi) true (epilogue_agrees e before info.callee_pop_size info.dest same) never)

-- ---- loops

-- a text leaves the frame's layout
mutual
  after_layout : (e : Emission) (i : Inst) → (after e i).layout ≡ e.layout
  after_layout e (Loop' mask body all) = row_layout e all
  after_layout e i = refl

  row_layout : (e : Emission) {m : _} (r : Row_of-Inst m) → (row_after e r).layout ≡ e.layout
  row_layout e end_of-Inst = refl
  row_layout e (more_of-Inst i rest) = row_layout (after e i) rest ∙ after_layout e i

-- what an instruction becomes stands before the rest
prepend_rows : (blocks depth : ℕ) (e : Emission) (i : Inst) (rest : Tree) → tree_has_rows blocks depth (prepend e i rest) ≡ (tree_has_rows blocks depth (prepend e i empty) && tree_has_rows blocks depth rest)
prepend_rows blocks depth e (Loop' mask body all) rest = one_more (nat_lt depth 8 && tree_has_rows blocks (depth + 1) (row_tree (without_map e) all)) (tree_has_rows blocks depth rest)
prepend_rows blocks depth e (Call link info) rest = behind_bodies blocks depth (call_bodies e link info) rest
prepend_rows blocks depth e (ReturnCall info) rest = behind_bodies blocks depth (tail_bodies e info.callee_pop_size info.dest) rest
prepend_rows blocks depth e i rest = behind_bodies blocks depth (Whole (resolved_instruction e i) ∷ []) rest

nested : (t : Bool) → AgreesInOrder (cond t None (Some NoRow)) t
nested true = never
nested false = exactly (Some NoRow) false refl

mutual
  pub inst_agrees : (flags : IsaFlags) (e before : Emission) (blocks depth : ℕ) (i : Inst) → e.layout ≡ before.layout → AgreesInOrder (inst_text flags depth e i).cause (tree_has_rows blocks depth (prepend before i empty))
  inst_agrees flags e before blocks depth (Loop' mask body all) same =
      let members = tree_has_rows blocks (depth + 1) (row_tree (without_map before) all) in
      and_true _ (nat_lt depth 8 && members) (in_order (nesting_cause depth) (row_text flags (depth + 1) e all).cause (nat_lt depth 8) members (nested (nat_lt depth 8)) (row_agrees flags e (without_map before) blocks (depth + 1) all same))
  inst_agrees flags e before blocks depth (Call link info) same = in_bodies blocks depth _ (call_bodies before link info) (call_agrees blocks depth e before link info)
  inst_agrees flags e before blocks depth (ReturnCall info) same = in_bodies blocks depth _ (tail_bodies before info.callee_pop_size info.dest) (tail_agrees blocks depth e before info same)
  inst_agrees flags e before blocks depth i same = and_true _ _ (whole_agrees blocks depth (not flags.no_relative_memory) e before i)

  row_agrees : (flags : IsaFlags) (e before : Emission) (blocks depth : ℕ) {m : _} (r : Row_of-Inst m) → e.layout ≡ before.layout → AgreesInOrder (row_text flags depth e r).cause (tree_has_rows blocks depth (row_tree before r))
  row_agrees flags e before blocks depth end_of-Inst same = never
  row_agrees flags e before blocks depth (more_of-Inst i rest) same =
      let own = tree_has_rows blocks depth (prepend before i empty) in
      let later = tree_has_rows blocks depth (row_tree (state_after before i) rest) in
      same_has _ (own && later) _ (sym (prepend_rows blocks depth before i (row_tree (state_after before i) rest)))
      (in_order (inst_text flags depth e i).cause (row_text flags depth (after e i) rest).cause own later (inst_agrees flags e before blocks depth i same) (row_agrees flags (after e i) (state_after before i) blocks depth rest (after_layout e i ∙ same)))
