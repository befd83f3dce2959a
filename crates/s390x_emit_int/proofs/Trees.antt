-- Emission goes on from member to member, and through a loop.
use Rattle.std.proofs.Common.{◌≡◌, ℕ, ◌+◌, List, [], ◌∷◌, ◌++◌, length, refl, sym, ap, ◌∙◌, subst, ◌<◌, ◌≢◌, get_or, drop, None, Some, arith, length-append, append_assoc, append-nil}
use Rattle.std.proofs.lemmas.List.{get_or-set_other}
use Rattle.std.proofs.Math.Seq.{get_or-append_seam}
use Rattle.s390x_inst.specs.Emission.{Emission}
use Rattle.s390x_buffer.specs.State.{BufferState}
use Rattle.s390x_inst.specs.declared.inst.Inst.{Inst}
use Rattle.s390x_inst.specs.declared.inst.Inst.TheVariants.{Call, Loop'}
use Rattle.s390x_typed_steps.specs.Calls.{safepoint, without_map}
use Rattle.s390x_typed_steps.specs.Stack.{state_after}
use Rattle.s390x_typed_steps.specs.Tree.{Tree, empty, leaf, loop_node, row_tree}
use Rattle.s390x_typed_steps.specs.Causes.{body_fresh_labels, fresh_labels}
use Rattle.s390x_inst.specs.declared.state.IsaFlags.{IsaFlags}
use Rattle.s390x_typed_steps.specs.Baseline.{tree_for}
use Rattle.s390x_typed_steps.proofs.Trees.{joined}
use Rattle.s390x_emit_int.specs.Members.{member_of, members_of, block_members_of}
use Rattle.s390x_emit_int.proofs.Members.{members_behind, block_members_behind}
use Rattle.s390x_emit_int.specs.Fragments.{StartStep, Draw, Bind, apply, apply_all}
use Rattle.s390x_emit_int.specs.Emission.{branch, body_fragments, fragments, own_fragments, back_fragments}
use Rattle.s390x_typed_steps.specs.Ranges.{AllInRange}
use Rattle.s390x_emit_int.specs.Room.{HasRoom}
use Rattle.s390x_emit_int.proofs.Runs.{Grows, run-append, opened, opened_labels, body_run, tree_grows}
use Rattle.s390x_emit_int.proofs.Starts.{Same, same_run}

-- the fragments of one tree come before those of the other
pub fragments_joined : (t u : Tree) (n after : ℕ) → fragments n after (joined t u) ≡ fragments n after t ++ fragments (n + fresh_labels t) after u
fragments_joined empty u n after = let e : n ≡ n + 0 = omega arith in ap (λ k. fragments k after u) e
fragments_joined (leaf b t) u n after =
    let own = body_fragments n after b in
    let d = body_fresh_labels b in
    let e : n + d + fresh_labels t ≡ n + (d + fresh_labels t) = omega arith in
    ap (λ l. StartStep ∷ l) (
    ap (λ l. own ++ l) (fragments_joined t u (n + d) after)
    ∙ sym (append_assoc own (fragments (n + d) after t) (fragments (n + d + fresh_labels t) after u))
    ∙ ap (λ k. (own ++ fragments (n + d) after t) ++ fragments k after u) e
    )
fragments_joined (loop_node mask members t) u n after =
    let inner = fragments (n + 2) (n + 1) members in
    let back = back_fragments n mask in
    let next = n + 2 + fresh_labels members in
    let e : next + fresh_labels t ≡ n + (2 + fresh_labels members + fresh_labels t) = omega arith in
    ap (λ l. StartStep ∷ Draw ∷ Draw ∷ Bind n ∷ l) (
    ap (λ l. inner ++ (back ++ l)) (fragments_joined t u next after)
    ∙ ap (λ l. inner ++ l) (sym (append_assoc back (fragments next after t) (fragments (next + fresh_labels t) after u)))
    ∙ sym (append_assoc inner (back ++ fragments next after t) (fragments (next + fresh_labels t) after u))
    ∙ ap (λ k. (inner ++ (back ++ fragments next after t)) ++ fragments k after u) e
    )

-- the fragments begin with a step's offset, and go on with the tree's own
abbrev pub Begins : Tree → Type 0
Begins own = (n after : ℕ) → fragments n after own ≡ StartStep ∷ own_fragments n after own

-- so do those of what an instruction becomes
pub member_begins : (flags : IsaFlags) (state : Emission) (i : Inst) → Begins (member_of flags state i)
member_begins flags state (Loop' mask body all) n after =
    let inner = fragments (n + 2) (n + 1) (tree_for flags (row_tree (without_map state) all)) in
    ap (λ l. StartStep ∷ Draw ∷ Draw ∷ Bind n ∷ (inner ++ l)) (append-nil (back_fragments n mask))
member_begins flags state i n after = refl

-- a member's fragments come before those of the others
pub joined_run : (own rest : Tree) (s : BufferState) (n after : ℕ) → Begins own → apply_all s (fragments n after (joined own rest)) ≡ apply_all (apply_all (apply s StartStep) (own_fragments n after own)) (fragments (n + fresh_labels own) after rest)
joined_run own rest s n after begins =
    let later = fragments (n + fresh_labels own) after rest in
    ap (apply_all s) (fragments_joined own rest n after)
    ∙ ap (λ l. apply_all s (l ++ later)) (begins n after)
    ∙ run-append (apply s StartStep) (own_fragments n after own) later

-- alone
pub own_run : (own : Tree) (s : BufferState) (n after : ℕ) → Begins own → apply_all s (fragments n after own) ≡ apply_all (apply s StartStep) (own_fragments n after own)
own_run own s n after begins = ap (apply_all s) (begins n after)

pub ranges_joined : (t u : Tree) → AllInRange t → AllInRange u → AllInRange (joined t u)
ranges_joined empty u f r = r
ranges_joined (leaf b t) u f r = (f.0, ranges_joined t u f.1 r)
ranges_joined (loop_node mask members t) u f r = (f.0, f.1, ranges_joined t u f.2 r)

-- ---- members in order

-- a safepoint changes the stack map alone
pub safepoint_nominal : (state : Emission) (i : Inst) → (safepoint state i).nominal ≡ state.nominal
safepoint_nominal state (Call link info) = refl
safepoint_nominal state i = refl

pub safepoint_after : (state : Emission) (i : Inst) → state_after (safepoint state i) i ≡ state_after state i
safepoint_after state (Call link info) = refl
safepoint_after state i = refl

-- one more member, before the rest
pub more_of : (own whole rest : Tree) (s s1 s2 r : BufferState) (after : ℕ) → Begins own → whole ≡ joined own rest
    → s1 ≡ apply s StartStep → s2 ≡ apply_all s1 (own_fragments (length s1.labels) after own)
    → apply_all s (fragments (length s.labels) after whole) ≡ r
    → apply_all s2 (fragments (length s2.labels) after rest) ≡ r
more_of own whole rest s s1 s2 r after begins is e1 e2 h =
    let n = length s.labels in
    let e2' : s2 ≡ apply_all (apply s StartStep) (own_fragments n after own) = e2 ∙ ap (λ x. apply_all x (own_fragments (length x.labels) after own)) e1 in
    let alone : s2 ≡ apply_all s (fragments n after own) = e2' ∙ sym (own_run own s n after begins) in
    let len : length s2.labels ≡ n + fresh_labels own = ap (λ x. length x.labels) alone ∙ (tree_grows own s n after refl).labels in
    ap (λ m. apply_all s2 (fragments m after rest)) len
    ∙ ap (λ x. apply_all x (fragments (n + fresh_labels own) after rest)) e2'
    ∙ sym (joined_run own rest s n after begins)
    ∙ ap (λ t. apply_all s (fragments n after t)) (sym is)
    ∙ h

-- in a loop
pub more : (flags : IsaFlags) (state : Emission) (is : List Inst) (k : ℕ) (i : Inst) (s s1 s2 r : BufferState) (after : ℕ) → k < length is → i ≡ get_or is k i
    → s1 ≡ apply s StartStep → s2 ≡ apply_all s1 (own_fragments (length s1.labels) after (member_of flags state i))
    → apply_all s (fragments (length s.labels) after (members_of flags state (drop k is))) ≡ r
    → apply_all s2 (fragments (length s2.labels) after (members_of flags (state_after state i) (drop (k + 1) is))) ≡ r
more flags state is k i s s1 s2 r after lt at =
    more_of (member_of flags state i) (members_of flags state (drop k is)) (members_of flags (state_after state i) (drop (k + 1) is)) s s1 s2 r after (member_begins flags state i) (members_behind flags state is k i lt at)

-- in a block
pub more_in_block : (flags : IsaFlags) (state : Emission) (is : List Inst) (k : ℕ) (i : Inst) (s s1 s2 r : BufferState) (after : ℕ) → k < length is → i ≡ get_or is k i
    → s1 ≡ apply s StartStep → s2 ≡ apply_all s1 (own_fragments (length s1.labels) after (member_of flags (safepoint state i) i))
    → apply_all s (fragments (length s.labels) after (block_members_of flags state (drop k is))) ≡ r
    → apply_all s2 (fragments (length s2.labels) after (block_members_of flags (state_after state i) (drop (k + 1) is))) ≡ r
more_in_block flags state is k i s s1 s2 r after lt at =
    more_of (member_of flags (safepoint state i) i) (block_members_of flags state (drop k is)) (block_members_of flags (state_after state i) (drop (k + 1) is)) s s1 s2 r after (member_begins flags (safepoint state i) i) (block_members_behind flags state is k i lt at)

-- and its numbers are in range
pub more_ranges : (flags : IsaFlags) (state : Emission) (is : List Inst) (k : ℕ) (i : Inst) → k < length is → i ≡ get_or is k i → AllInRange (member_of flags state i) → AllInRange (members_of flags (state_after state i) (drop (k + 1) is)) → AllInRange (members_of flags state (drop k is))
more_ranges flags state is k i lt at f rest = subst AllInRange (sym (members_behind flags state is k i lt at)) (ranges_joined (member_of flags state i) (members_of flags (state_after state i) (drop (k + 1) is)) f rest)

pub ranges_in_block : (flags : IsaFlags) (state : Emission) (is : List Inst) (k : ℕ) (i : Inst) → k < length is → i ≡ get_or is k i → AllInRange (member_of flags (safepoint state i) i) → AllInRange (block_members_of flags (state_after state i) (drop (k + 1) is)) → AllInRange (block_members_of flags state (drop k is))
ranges_in_block flags state is k i lt at f rest = subst AllInRange (sym (block_members_behind flags state is k i lt at)) (ranges_joined (member_of flags (safepoint state i) i) (block_members_of flags (state_after state i) (drop (k + 1) is)) f rest)

opened_end : (s : BufferState) → get_or (opened s).labels (length s.labels + 1) None ≡ None
opened_end s =
    let xs = s.labels ++ None ∷ [] in
    let ne : length s.labels + 1 ≢ length s.labels = omega arith in
    let e : length s.labels + 1 ≡ length xs = omega (arith, length-append s.labels (None ∷ [])) in
    get_or-set_other (xs ++ None ∷ []) (length s.labels) (length s.labels + 1) (Some (length s.bytes)) None ne ∙ ap (λ k. get_or (xs ++ None ∷ []) k None) e ∙ get_or-append_seam xs None [] None

-- a loop's end is free until it is bound
pub end_free : (s : BufferState) (members : Tree) → get_or (body_run s members).labels (length s.labels + 1) None ≡ None
end_free s members =
    let lt : length s.labels + 1 < length (opened s).labels = omega (arith, opened_labels s) in
    (tree_grows members (opened s) (length s.labels + 2) (length s.labels + 1) (sym (opened_labels s))).kept (length s.labels + 1) lt ∙ opened_end s

pub record LoopStates (s se : BufferState) (end mask : ℕ) (members : Tree) : Type 0 where
  pub free : get_or se.labels end None ≡ None
  pub after : (sf : BufferState) → sf ≡ apply se (Bind end) → sf ≡ apply_all s (own_fragments (length s.labels) 0 (loop_node mask members empty))

pub loop_states : (s sa sb so sc sd se : BufferState) (start end mask : ℕ) (members : Tree) → start ≡ length s.labels → sa ≡ apply s Draw → end ≡ length sa.labels → sb ≡ apply sa Draw → so ≡ apply sb (Bind start) → sc ≡ apply_all so (fragments (length so.labels) end members) → sd ≡ apply sc StartStep → se ≡ apply sd (branch mask start) → LoopStates s se end mask members
loop_states s sa sb so sc sd se start end mask members est ea een eb eo ec ed ee =
    let n = length s.labels in
    let eb' : sb ≡ apply (apply s Draw) Draw = eb ∙ ap (λ x. apply x Draw) ea in
    let eo' : so ≡ opened s = eo ∙ ap (λ x. apply x (Bind start)) eb' ∙ ap (λ l. apply (apply (apply s Draw) Draw) (Bind l)) est in
    let end' : end ≡ n + 1 = een ∙ ap (λ x. length x.labels) ea ∙ length-append s.labels (None ∷ []) in
    let lo : length so.labels ≡ n + 2 = ap (λ x. length x.labels) eo' ∙ opened_labels s in
    let ec' : sc ≡ body_run s members = ec ∙ ap (λ x. apply_all x (fragments (length so.labels) end members)) eo' ∙ ap (λ k. apply_all (opened s) (fragments k end members)) lo ∙ ap (λ k. apply_all (opened s) (fragments (n + 2) k members)) end' in
    let ed' : sd ≡ apply (body_run s members) StartStep = ed ∙ ap (λ x. apply x StartStep) ec' in
    let linked : ℕ → BufferState = λ l. apply (apply (body_run s members) StartStep) (branch mask l) in
    let ee' : se ≡ linked n = ee ∙ ap (λ x. apply x (branch mask start)) ed' ∙ ap linked est in
    record {
      free = ap (λ x. get_or x.labels end None) ee' ∙ ap (λ k. get_or (body_run s members).labels k None) end' ∙ end_free s members;
      after = λ sf ef. ef ∙ ap (λ x. apply x (Bind end)) ee' ∙ ap (λ k. apply (linked n) (Bind k)) end' ∙ sym (run-append (opened s) (fragments (n + 2) (n + 1) members) (back_fragments n mask));
    }

-- after a member there is room
pub more_room : (flags : IsaFlags) (state : Emission) (i : Inst) (s s1 s2 : BufferState) (after : ℕ) → HasRoom s → s1 ≡ apply s StartStep → s2 ≡ apply_all s1 (own_fragments (length s1.labels) after (member_of flags state i)) → HasRoom s2
more_room flags state i s s1 s2 after room e1 e2 =
    let n = length s.labels in
    let own = member_of flags state i in
    let e2' : s2 ≡ apply_all (apply s StartStep) (own_fragments n after own) = e2 ∙ ap (λ x. apply_all x (own_fragments (length x.labels) after own)) e1 in
    let alone : s2 ≡ apply_all s (fragments n after own) = e2' ∙ sym (own_run own s n after (member_begins flags state i)) in
    let g : Grows s (apply_all s (fragments n after own)) _ _ = tree_grows own s n after refl in
    let same : Same s (apply_all s (fragments n after own)) = same_run (fragments n after own) s in
    subst HasRoom (sym alone) (omega (arith, g.labels, same.block_count, ap length same.constants))
