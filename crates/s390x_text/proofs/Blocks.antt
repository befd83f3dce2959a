-- The texts of blocks without a cause of refusal, and the state along them.
use Rattle.std.proofs.Common.{◌≡◌, ℕ, zero, ◌+◌, ◌-◌, ◌<◌, Bool, true, false, List, [], ◌∷◌, ◌++◌, map, Option, Some, None, refl, sym, ap, subst, ◌∙◌, ◌&&◌, ◌||◌, arith}
use Rattle.std.proofs.lemmas.Bool.{and_parts, eqb-true}
use Rattle.std.proofs.lemmas.List.Elements.{All-cons}
use Rattle.std.specs.Prelude.{All, cond, nat_eq, nat_lt}
use Rattle.s390x_base.specs.declared.error.EmitError.TheVariants.{BadOperator, BadStackState}
use Rattle.s390x_inst.specs.Emission.{Emission}
use Rattle.s390x_inst.specs.declared.function.Block.{Block}
use Rattle.s390x_inst.specs.declared.inst.Inst.{Inst, Row_of-Inst, end_of-Inst, more_of-Inst}
use Rattle.s390x_inst.specs.declared.inst.Inst.TheVariants.{Loop', Call, ReturnCall, AllocateArgs}
use Rattle.s390x_inst.specs.declared.state.IsaFlags.{IsaFlags}
use Rattle.s390x_typed_steps.proofs.Baseline.{for_prepend_cause}
use Rattle.s390x_typed_steps.proofs.CallRows.{call_stays, tail_stays}
use Rattle.s390x_typed_steps.proofs.Causes.{first_left, first_right, unless_true}
use Rattle.s390x_typed_steps.specs.Baseline.{body_for, tree_for}
use Rattle.s390x_typed_steps.specs.Calls.{calling, safepoint}
use Rattle.s390x_typed_steps.specs.Causes.{Declared, block_cause, blocks_cause, body_cause, call_cause, fresh_labels, leaf_cause, tree_cause, unless}
use Rattle.s390x_typed_steps.specs.Resolved.{resolved_instruction}
use Rattle.s390x_typed_steps.specs.Stack.{nominal_after, outgoing_after, outgoing_behind, state_after}
use Rattle.s390x_typed_steps.specs.Tree.{Whole, block_tree, empty, prepend, row_tree}
use Rattle.s390x_text.specs.Instructions.{after, inst_text, insts_after, insts_text, row_after, row_text}
use Rattle.s390x_text_rows.specs.Texts.{first_cause}
use Rattle.s390x_text_rows.specs.declared.error.TextError.{TextError}
use Rattle.s390x_text_rows.specs.declared.error.TextError.TheVariants.{NoRow}
use Rattle.s390x_text.proofs.CallTexts.{call_fine, first_fine, tail_fine, takes_all}
use Rattle.s390x_text.proofs.Leaves.{leaf_fine}
use Rattle.s390x_text.proofs.Mapless.{mapped, same_resolved}
use Rattle.s390x_text.specs.Laws.{AllHaveTexts, HasText, HasTextsInOrder, states_after, tree_of_block}

-- ---- the state

-- arguments are allocated where none are, and in no loop
allocates : (flags : IsaFlags) (D : Declared) (n m depth size : ℕ) → leaf_cause flags D n m depth (AllocateArgs size) ≡ None → (nat_eq m 0 && nat_eq depth 0) ≡ true
allocates flags D n m depth size h = unless_true _ BadStackState (first_left _ _ (first_left _ _ h))

no_more : (b : Bool) (o : ℕ) → o ≡ 0 → cond b o 0 ≡ 0
no_more true o h = h
no_more false o h = refl

mutual
  -- calls leave no outgoing arguments behind where there were none
  outgoing_none : (o : ℕ) (i : Inst) → o ≡ 0 → outgoing_after o i ≡ 0
  outgoing_none o (Loop' mask body all) h = outgoing_row_none o all h
  outgoing_none o (Call link info) h = no_more info.patchable o h
  outgoing_none o i h = h

  outgoing_row_none : (o : ℕ) {m : _} (r : Row_of-Inst m) → o ≡ 0 → outgoing_behind o r ≡ 0
  outgoing_row_none o end_of-Inst h = h
  outgoing_row_none o (more_of-Inst i rest) h = outgoing_row_none (outgoing_after o i) rest (outgoing_none o i h)

first_zero : (a b : ℕ) → (nat_eq a 0 || nat_eq b 0) ≡ true → zero < b → a ≡ 0
first_zero a b h deep = go (nat_eq a 0) refl h
  where
    go : (t : Bool) → nat_eq a 0 ≡ t → (t || nat_eq b 0) ≡ true → a ≡ 0
    go true e h = eqb-true a 0 e
    go false e h = let outside = eqb-true b 0 h in absurd (omega (arith, outside, deep))

-- in a loop the nominal size stays
nominal_kept : (flags : IsaFlags) (D : Declared) (n depth : ℕ) (e : Emission) (stack_map : Option ℕ) (i : Inst) → zero < depth → tree_cause flags D n e.nominal depth (tree_for flags (prepend (mapped e stack_map) i empty)) ≡ None → nominal_after e.nominal i ≡ e.nominal
nominal_kept flags D n depth e stack_map (AllocateArgs size) deep h =
    let outside = eqb-true depth 0 (and_parts (nat_eq e.nominal 0) (nat_eq depth 0) (allocates flags D n e.nominal depth size (first_left _ _ h))).1 in
    absurd (omega (arith, outside, deep))
nominal_kept flags D n depth e stack_map (Call link info) deep h =
    let c = calling (mapped e stack_map) link info in
    let none = first_zero info.callee_pop_size depth (takes_all D.blocks e.nominal depth c (first_left (call_cause D.blocks e.nominal depth c) _ h)).1 deep in
    omega (arith, none)
nominal_kept flags D n depth e stack_map i deep h = refl

-- and so does the state, but for the stack map
kept : (flags : IsaFlags) (D : Declared) (n depth : ℕ) (e : Emission) (stack_map : Option ℕ) (i : Inst) → zero < depth → e.outgoing ≡ 0 → tree_cause flags D n e.nominal depth (tree_for flags (prepend (mapped e stack_map) i empty)) ≡ None → state_after e i ≡ mapped e None
kept flags D n depth e stack_map i deep none h =
    let outgoing : outgoing_after e.outgoing i ≡ e.outgoing = outgoing_none e.outgoing i none ∙ sym none in
    ap (λ m. record e { nominal = m; outgoing = outgoing_after e.outgoing i; stack_map = None }) (nominal_kept flags D n depth e stack_map i deep h)
    ∙ ap (λ m. record e { outgoing = m; stack_map = None }) outgoing

-- the state behind an instruction, with the stack map before it
abbrev unmapped_after : Emission → Inst → Emission
unmapped_after e i = mapped (state_after e i) e.stack_map

mutual
  -- the state behind an instruction is emission's
  pub same_state : (flags : IsaFlags) (D : Declared) (n depth : ℕ) (e : Emission) (stack_map : Option ℕ) (i : Inst) → e.outgoing ≡ 0 → tree_cause flags D n e.nominal depth (tree_for flags (prepend (mapped e stack_map) i empty)) ≡ None → after e i ≡ unmapped_after e i
  same_state flags D n depth e stack_map (Loop' mask body all) none h =
      same_row flags D (n + 2) (depth + 1) e None all (omega arith) none (first_right _ _ (first_left _ _ h)) ∙ ap (λ m. record e { outgoing = m }) (none ∙ sym (outgoing_row_none e.outgoing all none))
  same_state flags D n depth e stack_map (AllocateArgs size) none h =
      let empty_stack = eqb-true e.nominal 0 (and_parts (nat_eq e.nominal 0) (nat_eq depth 0) (allocates flags D n e.nominal depth size (first_left _ _ h))).0 in
      let sum : size ≡ e.nominal + size = omega (arith, empty_stack) in
      ap (λ m. record e { nominal = m }) sum
  same_state flags D n depth e stack_map (Call link info) none h =
      let c = calling (mapped e stack_map) link info in
      let all = (takes_all D.blocks e.nominal depth c (first_left (call_cause D.blocks e.nominal depth c) _ h)).0 in
      let nothing : 0 ≡ e.nominal - info.callee_pop_size = omega (arith, all) in
      ap (λ m. record e { nominal = m; outgoing = 0 }) nothing
      ∙ ap (λ m. record e { nominal = e.nominal - info.callee_pop_size; outgoing = m }) (sym (no_more info.patchable e.outgoing none))
  same_state flags D n depth e stack_map i none h = refl

  -- and the members of a loop leave it
  same_row : (flags : IsaFlags) (D : Declared) (n depth : ℕ) (e : Emission) (stack_map : Option ℕ) {m : _} (r : Row_of-Inst m) → zero < depth → e.outgoing ≡ 0 → tree_cause flags D n e.nominal depth (tree_for flags (row_tree (mapped e stack_map) r)) ≡ None → row_after e r ≡ e
  same_row flags D n depth e stack_map end_of-Inst deep none h = refl
  same_row flags D n depth e stack_map (more_of-Inst i rest) deep none h =
      let here = mapped e stack_map in
      let k = n + fresh_labels (prepend here i empty) in
      let parts = sym (for_prepend_cause flags here D n e.nominal depth i (row_tree (state_after here i) rest)) ∙ h in
      let own = first_left _ _ parts in
      let same = kept flags D n depth e stack_map i deep none own in
      let later = subst (λ s. tree_cause flags D k s.nominal depth (tree_for flags (row_tree s rest)) ≡ None) same (first_right (tree_cause flags D n e.nominal depth (tree_for flags (prepend here i empty))) _ parts) in
      ap (λ s. row_after s rest) (same_state flags D n depth e stack_map i none own ∙ ap (λ s. mapped s e.stack_map) same)
      ∙ same_row flags D k depth e None rest deep none later

-- ---- texts

nested : (b : Bool) (later : Option TextError) → unless b BadOperator ≡ None → later ≡ None → first_cause (cond b None (Some NoRow)) later ≡ None
nested true later p q = q
nested false later p q = absurd (cc)

mutual
  -- an instruction has a text
  pub inst_fine : (flags : IsaFlags) (D : Declared) (n depth : ℕ) (e : Emission) (stack_map : Option ℕ) (i : Inst) → e.outgoing ≡ 0 → tree_cause flags D n e.nominal depth (tree_for flags (prepend (mapped e stack_map) i empty)) ≡ None → (inst_text flags depth e i).cause ≡ None
  inst_fine flags D n depth e stack_map (Loop' mask body all) none h =
      let own = first_left _ _ h in
      nested (nat_lt depth 8) _ (first_left _ _ (first_left _ _ own)) (row_fine flags D (n + 2) (depth + 1) e None all (omega arith) none (first_right _ _ own))
  inst_fine flags D n depth e stack_map (Call link info) none h = call_fine flags D n depth e stack_map link info (ap (tree_cause flags D n e.nominal depth) (sym (call_stays flags (mapped e stack_map) link info)) ∙ h)
  inst_fine flags D n depth e stack_map (ReturnCall info) none h = tail_fine flags D n depth e stack_map info (ap (tree_cause flags D n e.nominal depth) (sym (tail_stays flags (mapped e stack_map) info.callee_pop_size info.dest)) ∙ h)
  inst_fine flags D n depth e stack_map i none h =
      leaf_fine flags D n depth e i
      (subst (λ j. body_cause flags D n e.nominal depth (body_for flags (Whole j)) ≡ None) (same_resolved e stack_map i) (first_left (body_cause flags D n e.nominal depth (body_for flags (Whole (resolved_instruction (mapped e stack_map) i)))) None h))

  -- and so do the members of a loop
  row_fine : (flags : IsaFlags) (D : Declared) (n depth : ℕ) (e : Emission) (stack_map : Option ℕ) {m : _} (r : Row_of-Inst m) → zero < depth → e.outgoing ≡ 0 → tree_cause flags D n e.nominal depth (tree_for flags (row_tree (mapped e stack_map) r)) ≡ None → (row_text flags depth e r).cause ≡ None
  row_fine flags D n depth e stack_map end_of-Inst deep none h = refl
  row_fine flags D n depth e stack_map (more_of-Inst i rest) deep none h =
      let here = mapped e stack_map in
      let k = n + fresh_labels (prepend here i empty) in
      let parts = sym (for_prepend_cause flags here D n e.nominal depth i (row_tree (state_after here i) rest)) ∙ h in
      let own = first_left _ _ parts in
      let same = kept flags D n depth e stack_map i deep none own in
      let later = subst (λ s. tree_cause flags D k s.nominal depth (tree_for flags (row_tree s rest)) ≡ None) same (first_right (tree_cause flags D n e.nominal depth (tree_for flags (prepend here i empty))) _ parts) in
      let here_after : after e i ≡ e = same_state flags D n depth e stack_map i none own ∙ ap (λ s. mapped s e.stack_map) same in
      first_fine _ _ (inst_fine flags D n depth e stack_map i none own)
      (subst (λ s. (row_text flags depth s rest).cause ≡ None) (sym here_after) (row_fine flags D k depth e None rest deep none later))

-- ---- blocks

-- the stack map of a member of a block: a call has its own
abbrev map_at : Option ℕ → Inst → Option ℕ
map_at stack_map (Call link info) = info.stack_map
map_at stack_map i = stack_map

safe : (e : Emission) (stack_map : Option ℕ) (i : Inst) → safepoint (mapped e stack_map) i ≡ mapped e (map_at stack_map i)
safe e stack_map (Call link info) = refl
safe e stack_map i = refl

-- the causes of a member, and of those behind it
in_two : (flags : IsaFlags) (D : Declared) (n : ℕ) (e : Emission) (stack_map : Option ℕ) (i : Inst) (is : List Inst) → tree_cause flags D n e.nominal 0 (tree_for flags (block_tree (mapped e stack_map) (i ∷ is))) ≡ None
    → (tree_cause flags D n e.nominal 0 (tree_for flags (prepend (mapped e (map_at stack_map i)) i empty)) ≡ None)
    × (tree_cause flags D (n + fresh_labels (prepend (mapped e (map_at stack_map i)) i empty)) (nominal_after e.nominal i) 0 (tree_for flags (block_tree (state_after e i) is)) ≡ None)
in_two flags D n e stack_map i is h =
    let here = mapped e (map_at stack_map i) in
    let rest = block_tree (state_after e i) is in
    let moved = subst (λ s. tree_cause flags D n e.nominal 0 (tree_for flags (prepend s i rest)) ≡ None) (safe e stack_map i) h in
    let parts = sym (for_prepend_cause flags here D n e.nominal 0 i rest) ∙ moved in
    (first_left _ _ parts, first_right (tree_cause flags D n e.nominal 0 (tree_for flags (prepend here i empty))) _ parts)

-- behind instructions the stack map before them is gone
map_gone : (e : Emission) (stack_map shown : Option ℕ) (is : List Inst) → mapped (states_after (mapped e stack_map) is) shown ≡ mapped (states_after e is) shown
map_gone e stack_map shown [] = refl
map_gone e stack_map shown (i ∷ is) = refl

has_text : (flags : IsaFlags) (D : Declared) (n : ℕ) (e : Emission) (stack_map : Option ℕ) (before behind : List Inst) (i : Inst) → e.outgoing ≡ 0 → tree_cause flags D n e.nominal 0 (tree_for flags (block_tree (mapped e stack_map) (before ++ i ∷ behind))) ≡ None → HasText flags e before i
has_text flags D n e stack_map [] behind i none h =
    record { state = refl; text = inst_fine flags D n 0 e (map_at stack_map i) i none (in_two flags D n e stack_map i behind h).0 }
has_text flags D n e stack_map (x ∷ xs) behind i none h =
    let parts = in_two flags D n e stack_map x (xs ++ i ∷ behind) h in
    let same = ap (λ s. insts_after s xs) (same_state flags D n 0 e (map_at stack_map x) x none parts.0) in
    let next = n + fresh_labels (prepend (mapped e (map_at stack_map x)) x empty) in
    let rest = has_text flags D next (unmapped_after e x) None xs behind i (outgoing_none e.outgoing x none) parts.1 in
    record { state = same ∙ rest.state ∙ map_gone (state_after e x) e.stack_map e.stack_map xs; text = subst (λ s. (inst_text flags 0 s i).cause ≡ None) (sym same) rest.text }

-- a block begins at the nominal size 0
block_part : (flags : IsaFlags) (D : Declared) (n : ℕ) (e : Emission) (is : List Inst) → e.nominal ≡ 0 → block_cause flags D n (tree_for flags (block_tree e is)) ≡ None → tree_cause flags D n e.nominal 0 (tree_for flags (block_tree e is)) ≡ None
block_part flags D n e is start h = subst (λ m. tree_cause flags D n m 0 (tree_for flags (block_tree e is)) ≡ None) (sym start) (first_left _ _ h)

block_fine : (flags : IsaFlags) (D : Declared) (n : ℕ) (e : Emission) (b : Block) → e.nominal ≡ 0 → e.outgoing ≡ 0 → block_cause flags D n (tree_of_block flags e b) ≡ None → AllHaveTexts flags e b
block_fine flags D n e b start none h before behind i is =
    has_text flags D n e e.stack_map before behind i none (subst (λ is. tree_cause flags D n e.nominal 0 (tree_for flags (block_tree e is)) ≡ None) is (block_part flags D n e b.insts.items start h))

pub all_have_texts : (flags : IsaFlags) (D : Declared) (n : ℕ) (e : Emission) (blocks : List Block) → e.nominal ≡ 0 → e.outgoing ≡ 0 → blocks_cause flags D n (map (tree_of_block flags e) blocks) ≡ None → All (AllHaveTexts flags e) blocks
all_have_texts flags D n e [] start none h = λ k d lt. absurd (omega (arith, lt))
all_have_texts flags D n e (b ∷ bs) start none h =
    All-cons (AllHaveTexts flags e) b bs (block_fine flags D n e b start none (first_left _ _ h))
    (all_have_texts flags D (n + fresh_labels (tree_of_block flags e b)) e bs start none (first_right (block_cause flags D n (tree_of_block flags e b)) _ h))

-- ---- all texts of a block

insts_fine : (flags : IsaFlags) (D : Declared) (n : ℕ) (e : Emission) (stack_map : Option ℕ) (is : List Inst) → e.outgoing ≡ 0 → tree_cause flags D n e.nominal 0 (tree_for flags (block_tree (mapped e stack_map) is)) ≡ None → (insts_text flags 0 e is).cause ≡ None
insts_fine flags D n e stack_map [] none h = refl
insts_fine flags D n e stack_map (i ∷ is) none h =
    let parts = in_two flags D n e stack_map i is h in
    let next = n + fresh_labels (prepend (mapped e (map_at stack_map i)) i empty) in
    let rest = insts_fine flags D next (unmapped_after e i) None is (outgoing_none e.outgoing i none) parts.1 in
    first_fine _ _ (inst_fine flags D n 0 e (map_at stack_map i) i none parts.0)
    (subst (λ s. (insts_text flags 0 s is).cause ≡ None) (sym (same_state flags D n 0 e (map_at stack_map i) i none parts.0)) rest)

pub all_in_order : (flags : IsaFlags) (D : Declared) (n : ℕ) (e : Emission) (blocks : List Block) → e.nominal ≡ 0 → e.outgoing ≡ 0 → blocks_cause flags D n (map (tree_of_block flags e) blocks) ≡ None → All (HasTextsInOrder flags e) blocks
all_in_order flags D n e [] start none h = λ k d lt. absurd (omega (arith, lt))
all_in_order flags D n e (b ∷ bs) start none h =
    All-cons (HasTextsInOrder flags e) b bs (insts_fine flags D n e e.stack_map b.insts.items none (block_part flags D n e b.insts.items start (first_left _ _ h)))
    (all_in_order flags D (n + fresh_labels (tree_of_block flags e b)) e bs start none (first_right (block_cause flags D n (tree_of_block flags e b)) _ h))
