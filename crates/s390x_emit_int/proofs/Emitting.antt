-- What emission finds without a cause has none in its tree: from member to member, through a loop, and of one instruction.
use Rattle.std.proofs.Common.{◌≡◌, ℕ, ◌+◌, ◌<◌, ◌∙◌, List, length, get_or, drop, None, refl, sym, ap, subst}
use Rattle.s390x_buffer.specs.State.{BufferState}
use Rattle.s390x_inst.specs.Emission.{Emission}
use Rattle.s390x_inst.specs.declared.inst.Inst.{Inst}
use Rattle.s390x_inst.specs.declared.state.IsaFlags.{IsaFlags}
use Rattle.s390x_typed_steps.specs.Causes.{Declared, first_emit_cause, declared_in, fresh_labels, instruction_fresh_labels, nesting_cause, numbers_cause, facility_cause, stack_cause, cause_or, memory_cause_or, branch_cause, instruction_cause, leaf_cause, tree_cause, nominal_behind}
use Rattle.s390x_typed_steps.specs.Calls.{safepoint}
use Rattle.s390x_typed_steps.specs.Memory.{memory}
use Rattle.s390x_typed_steps.specs.Resolved.{resolved_instruction}
use Rattle.s390x_typed_steps.specs.SingleInstruction.{single_instruction}
use Rattle.s390x_typed_steps.specs.Stack.{nominal_after, state_after}
use Rattle.s390x_typed_steps.specs.Tree.{Tree, empty, loop_node}
use Rattle.s390x_typed_steps.proofs.Causes.{first_left, first_right, joined_cause}
use Rattle.s390x_typed_steps.proofs.Trees.{joined, joined_behind}
use Rattle.s390x_emit_int.specs.Fragments.{StartStep, Draw, Bind, apply, apply_all}
use Rattle.s390x_emit_int.specs.Emission.{own_fragments}
use Rattle.s390x_emit_int.proofs.Passing.{Turns, turns_declared, turns_on, draw_turns, bind_turns, tree_turns}
use Rattle.s390x_emit_int.proofs.Resolving.{cause_resolved, fresh_labels_resolved}
use Rattle.s390x_emit_int.specs.Members.{member_of, members_of, block_members_of}
use Rattle.s390x_emit_int.proofs.Members.{members_behind, block_members_behind, member_nominal}
use Rattle.s390x_emit_int.proofs.Trees.{Begins, member_begins, own_run}
pub use Rattle.s390x_address.proofs.Lowered.{both_none}

-- the cause of the rest behind a member without one is that of the whole
pub more_cause_of : (flags : IsaFlags) (own : Tree) (s s1 s2 : BufferState) (after nominal depth : ℕ) (whole rest : Tree) → Begins own → whole ≡ joined own rest → s1 ≡ apply s StartStep → s2 ≡ apply_all s1 (own_fragments (length s1.labels) after own) →
    tree_cause flags (declared_in s1) (length s1.labels) nominal depth own ≡ None →
    tree_cause flags (declared_in s2) (length s2.labels) (nominal_behind nominal own) depth rest ≡ tree_cause flags (declared_in s) (length s.labels) nominal depth whole
more_cause_of flags own s s1 s2 after nominal depth whole rest begins is e1 e2 none =
    let n = length s.labels in
    let m = nominal_behind nominal own in
    let D = declared_in s in
    let there : s2 ≡ apply_all (apply s StartStep) (own_fragments n after own) = e2 ∙ ap (λ x. apply_all x (own_fragments (length x.labels) after own)) e1 in
    let t = tree_turns s s2 n after own refl (there ∙ sym (own_run own s n after begins)) in
    let here : tree_cause flags D n nominal depth own ≡ None = subst (λ (x : BufferState). tree_cause flags (declared_in x) (length x.labels) nominal depth own ≡ None) e1 none in
    let later = tree_cause flags D (n + fresh_labels own) m depth rest in
    let left : tree_cause flags (declared_in s2) (length s2.labels) m depth rest ≡ later = ap (λ E. tree_cause flags E (length s2.labels) m depth rest) (turns_declared s s2 _ _ t) ∙ ap (λ l. tree_cause flags D l m depth rest) t.labels in
    left ∙ ap (λ o. first_emit_cause o later) (sym here) ∙ sym (joined_cause flags D n nominal depth own rest) ∙ ap (tree_cause flags D n nominal depth) (sym is)

-- of the members of a loop
pub more_cause : (flags : IsaFlags) (state next : Emission) (s s1 s2 : BufferState) (after depth : ℕ) (is : List Inst) (k : ℕ) (i : Inst) → k < length is → i ≡ get_or is k i → s1 ≡ apply s StartStep → s2 ≡ apply_all s1 (own_fragments (length s1.labels) after (member_of flags state i)) → next ≡ state_after state i →
    tree_cause flags (declared_in s1) (length s1.labels) state.nominal depth (member_of flags state i) ≡ None →
    tree_cause flags (declared_in s2) (length s2.labels) next.nominal depth (members_of flags next (drop (k + 1) is)) ≡ tree_cause flags (declared_in s) (length s.labels) state.nominal depth (members_of flags state (drop k is))
more_cause flags state next s s1 s2 after depth is k i lt at e1 e2 on none =
    subst (λ (e : Emission). tree_cause flags (declared_in s2) (length s2.labels) e.nominal depth (members_of flags e (drop (k + 1) is)) ≡ tree_cause flags (declared_in s) (length s.labels) state.nominal depth (members_of flags state (drop k is))) (sym on)
    (ap (λ m. tree_cause flags (declared_in s2) (length s2.labels) m depth (members_of flags (state_after state i) (drop (k + 1) is))) (sym (member_nominal flags state state.nominal i))
    ∙ more_cause_of flags (member_of flags state i) s s1 s2 after state.nominal depth (members_of flags state (drop k is)) (members_of flags (state_after state i) (drop (k + 1) is)) (member_begins flags state i) (members_behind flags state is k i lt at) e1 e2 none)

-- of those of a block
pub more_cause_in_block : (flags : IsaFlags) (state next : Emission) (s s1 s2 : BufferState) (after depth : ℕ) (is : List Inst) (k : ℕ) (i : Inst) → k < length is → i ≡ get_or is k i → s1 ≡ apply s StartStep → s2 ≡ apply_all s1 (own_fragments (length s1.labels) after (member_of flags (safepoint state i) i)) → next ≡ state_after state i →
    tree_cause flags (declared_in s1) (length s1.labels) state.nominal depth (member_of flags (safepoint state i) i) ≡ None →
    tree_cause flags (declared_in s2) (length s2.labels) next.nominal depth (block_members_of flags next (drop (k + 1) is)) ≡ tree_cause flags (declared_in s) (length s.labels) state.nominal depth (block_members_of flags state (drop k is))
more_cause_in_block flags state next s s1 s2 after depth is k i lt at e1 e2 on none =
    subst (λ (e : Emission). tree_cause flags (declared_in s2) (length s2.labels) e.nominal depth (block_members_of flags e (drop (k + 1) is)) ≡ tree_cause flags (declared_in s) (length s.labels) state.nominal depth (block_members_of flags state (drop k is))) (sym on)
    (ap (λ m. tree_cause flags (declared_in s2) (length s2.labels) m depth (block_members_of flags (state_after state i) (drop (k + 1) is))) (sym (member_nominal flags (safepoint state i) state.nominal i))
    ∙ more_cause_of flags (member_of flags (safepoint state i) i) s s1 s2 after state.nominal depth (block_members_of flags state (drop k is)) (block_members_of flags (state_after state i) (drop (k + 1) is)) (member_begins flags (safepoint state i) i) (block_members_behind flags state is k i lt at) e1 e2 none)

-- so is the nominal size at the end
nominal_of : (own whole rest : Tree) (nominal after : ℕ) → whole ≡ joined own rest → nominal_behind nominal own ≡ after → nominal_behind after rest ≡ nominal_behind nominal whole
nominal_of own whole rest nominal after is same = ap (λ m. nominal_behind m rest) (sym same) ∙ sym (joined_behind nominal own rest) ∙ ap (nominal_behind nominal) (sym is)

pub more_nominal : (flags : IsaFlags) (state next : Emission) (is : List Inst) (k : ℕ) (i : Inst) → k < length is → i ≡ get_or is k i → next ≡ state_after state i → nominal_behind next.nominal (members_of flags next (drop (k + 1) is)) ≡ nominal_behind state.nominal (members_of flags state (drop k is))
more_nominal flags state next is k i lt at on =
    let rest = members_of flags (state_after state i) (drop (k + 1) is) in
    subst (λ (e : Emission). nominal_behind e.nominal (members_of flags e (drop (k + 1) is)) ≡ nominal_behind state.nominal (members_of flags state (drop k is))) (sym on)
    (nominal_of (member_of flags state i) (members_of flags state (drop k is)) rest state.nominal (nominal_after state.nominal i) (members_behind flags state is k i lt at) (member_nominal flags state state.nominal i))

pub nominal_in_block : (flags : IsaFlags) (state next : Emission) (is : List Inst) (k : ℕ) (i : Inst) → k < length is → i ≡ get_or is k i → next ≡ state_after state i → nominal_behind next.nominal (block_members_of flags next (drop (k + 1) is)) ≡ nominal_behind state.nominal (block_members_of flags state (drop k is))
nominal_in_block flags state next is k i lt at on =
    let rest = block_members_of flags (state_after state i) (drop (k + 1) is) in
    subst (λ (e : Emission). nominal_behind e.nominal (block_members_of flags e (drop (k + 1) is)) ≡ nominal_behind state.nominal (block_members_of flags state (drop k is))) (sym on)
    (nominal_of (member_of flags (safepoint state i) i) (block_members_of flags state (drop k is)) rest state.nominal (nominal_after state.nominal i) (block_members_behind flags state is k i lt at) (member_nominal flags (safepoint state i) state.nominal i))

-- a loop that may stand there, whose members have no cause, has none
pub loop_none : (flags : IsaFlags) (s sa sb so : BufferState) (start nominal depth mask : ℕ) (members : Tree) → sa ≡ apply s Draw → sb ≡ apply sa Draw → so ≡ apply sb (Bind start) → first_emit_cause (nesting_cause depth) (numbers_cause (length s.labels) 2) ≡ None →
    tree_cause flags (declared_in so) (length so.labels) nominal (depth + 1) members ≡ None → tree_cause flags (declared_in s) (length s.labels) nominal depth (loop_node mask members empty) ≡ None
loop_none flags s sa sb so start nominal depth mask members ea eb eo opens inside =
    let n = length s.labels in
    let t : Turns s so (1 + 1 + 0) (0 + 0 + 0) = turns_on s sb so _ _ _ _ (turns_on s sa sb _ _ _ _ (draw_turns s sa ea) (draw_turns sa sb eb)) (bind_turns sb so start eo) in
    let inner : tree_cause flags (declared_in s) (n + 2) nominal (depth + 1) members ≡ None = sym (ap (λ E. tree_cause flags E (length so.labels) nominal (depth + 1) members) (turns_declared s so _ _ t) ∙ ap (λ l. tree_cause flags (declared_in s) l nominal (depth + 1) members) t.labels) ∙ inside in
    both_none _ _ (both_none _ _ opens inner) refl

-- one instruction, by its causes outside and its own
pub leaf_none : (flags : IsaFlags) (e : Emission) (D : Declared) (n nominal depth : ℕ) (i : Inst) → first_emit_cause (facility_cause flags i) (first_emit_cause (stack_cause nominal depth i) (numbers_cause n (instruction_fresh_labels i))) ≡ None →
    cause_or (single_instruction i) (memory_cause_or D (memory (resolved_instruction e i)) (branch_cause D.blocks depth i)) ≡ None → leaf_cause flags D n nominal depth (resolved_instruction e i) ≡ None
leaf_none flags e D n nominal depth i outer own =
    let facility = first_left (facility_cause flags i) _ outer in
    let later = first_right (facility_cause flags i) _ outer in
    let stack = first_left (stack_cause nominal depth i) _ later in
    let numbers = first_right (stack_cause nominal depth i) _ later in
    both_none _ _ (sym (cause_resolved flags e D nominal depth i) ∙ both_none _ _ facility (both_none _ _ stack own)) (ap (numbers_cause n) (fresh_labels_resolved e i) ∙ numbers)

-- and where it has none
pub leaf_outer : (flags : IsaFlags) (e : Emission) (D : Declared) (n nominal depth : ℕ) (i : Inst) → leaf_cause flags D n nominal depth (resolved_instruction e i) ≡ None → first_emit_cause (facility_cause flags i) (first_emit_cause (stack_cause nominal depth i) (numbers_cause n (instruction_fresh_labels i))) ≡ None
leaf_outer flags e D n nominal depth i h =
    let own = cause_resolved flags e D nominal depth i ∙ first_left (instruction_cause flags D nominal depth (resolved_instruction e i)) _ h in
    let later = first_right (facility_cause flags i) _ own in
    both_none _ _ (first_left (facility_cause flags i) _ own) (both_none _ _ (first_left (stack_cause nominal depth i) _ later) (ap (numbers_cause n) (sym (fresh_labels_resolved e i)) ∙ first_right (instruction_cause flags D nominal depth (resolved_instruction e i)) _ h))
