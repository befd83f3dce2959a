-- What the check let pass stays passed, from member to member, through a loop and from block to block.
use Rattle.std.proofs.Common.{◌≡◌, ℕ, ◌+◌, ◌<◌, ◌≤◌, ◌∙◌, List, [], ◌∷◌, length, get_or, drop, None, false, refl, sym, ap, ap₂, subst, arith, length-append, length-set, nat_lt}
use Rattle.std.proofs.lemmas.Bool.{ltb-true}
use Rattle.s390x_inst.specs.Emission.{Emission}
use Rattle.s390x_inst.specs.declared.state.IsaFlags.{IsaFlags}
use Rattle.s390x_base.specs.declared.error.EmitError.TheVariants.{LabelOutOfRange}
use Rattle.s390x_buffer.specs.BlockEnd.{KeepsTables}
use Rattle.s390x_buffer.specs.Extends.{Extends}
use Rattle.s390x_buffer.specs.State.{BufferState, Constant, label_limit}
use Rattle.s390x_inst.specs.declared.inst.Inst.{Inst}
use Rattle.s390x_typed_steps.specs.Tree.{Tree, empty, loop_node}
use Rattle.s390x_typed_steps.specs.Calls.{safepoint}
use Rattle.s390x_typed_steps.specs.Sizes.{tree_size}
use Rattle.s390x_typed_steps.specs.Stack.{nominal_after, state_after}
use Rattle.s390x_typed_steps.specs.Causes.{Declared, first_emit_cause, aligns_of, declared_in, fresh_labels, nesting_cause, numbers_cause, tree_cause, stack_cause, nominal_behind}
use Rattle.s390x_typed_steps.proofs.Trees.{joined, joined_size}
use Rattle.s390x_typed_steps.proofs.Causes.{first_left, first_right, unless_true, joined_cause}
use Rattle.s390x_emit_int.specs.Fragments.{StartStep, Draw, Bind, apply, apply_all}
use Rattle.s390x_emit_int.specs.Emission.{branch, fragments, own_fragments}
use Rattle.s390x_emit_int.specs.Room.{FitsWithoutCause, TreeFits}
use Rattle.s390x_emit_int.proofs.Runs.{tree_grows, length-branch}
use Rattle.s390x_emit_int.proofs.Starts.{same_run}
use Rattle.s390x_emit_int.proofs.Resolving.{no_stack_cause}
use Rattle.s390x_emit_int.specs.Members.{member_of, members_of, block_members_of}
use Rattle.s390x_emit_int.proofs.Members.{members_behind, block_members_behind, member_nominal}
use Rattle.s390x_emit_int.proofs.Trees.{Begins, member_begins, own_run, safepoint_nominal}

-- from s to t so many labels were drawn and so many bytes put, and no mark was set
pub record Turns (s t : BufferState) (k m : ℕ) : Type 0 where
  pub unpoisoned : t.is_poisoned ≡ s.is_poisoned
  pub blocks : t.block_count ≡ s.block_count
  pub constants : t.constants ≡ s.constants
  pub labels : length t.labels ≡ length s.labels + k
  pub bytes : length t.bytes ≡ length s.bytes + m

abbrev declared_by : ℕ → List Constant → Declared
declared_by n cs = record { blocks = n; aligns = aligns_of cs }

-- what is declared stays
pub turns_declared : (s t : BufferState) (k m : ℕ) → Turns s t k m → declared_in t ≡ declared_in s
turns_declared s t k m u = ap₂ declared_by u.blocks u.constants

-- nor does a call change it that lets all entries stand
pub entries_declared : (s t : BufferState) → Extends s t → declared_in t ≡ declared_in s
entries_declared s t k = ap₂ declared_by k.entries.block_count k.entries.constants

-- or the end of a block behind it
pub still_declared : (s t u : BufferState) → Extends s t → KeepsTables t u → declared_in u ≡ declared_in s
still_declared s t u k e = ap₂ declared_by e.block_count e.constants ∙ entries_declared s t k

pub step_turns : (s t : BufferState) → t ≡ apply s StartStep → Turns s t 0 0
step_turns s t e = record { unpoisoned = ap (λ x. x.is_poisoned) e; blocks = ap (λ x. x.block_count) e; constants = ap (λ x. x.constants) e; labels = omega (arith, ap (λ x. length x.labels) e); bytes = omega (arith, ap (λ x. length x.bytes) e) }

pub draw_turns : (s t : BufferState) → t ≡ apply s Draw → Turns s t 1 0
draw_turns s t e = record { unpoisoned = ap (λ x. x.is_poisoned) e; blocks = ap (λ x. x.block_count) e; constants = ap (λ x. x.constants) e; labels = ap (λ x. length x.labels) e ∙ length-append s.labels (None ∷ []); bytes = omega (arith, ap (λ x. length x.bytes) e) }

pub bind_turns : (s t : BufferState) (l : ℕ) → t ≡ apply s (Bind l) → Turns s t 0 0
bind_turns s t l e = record { unpoisoned = ap (λ x. x.is_poisoned) e; blocks = ap (λ x. x.block_count) e; constants = ap (λ x. x.constants) e; labels = ap (λ x. length x.labels) e ∙ length-set s.labels l _ ∙ (omega arith); bytes = omega (arith, ap (λ x. length x.bytes) e) }

pub branch_turns : (s t : BufferState) (mask l : ℕ) → t ≡ apply s (branch mask l) → Turns s t 0 6
branch_turns s t mask l e = record { unpoisoned = ap (λ x. x.is_poisoned) e; blocks = ap (λ x. x.block_count) e; constants = ap (λ x. x.constants) e; labels = omega (arith, ap (λ x. length x.labels) e); bytes = ap (λ x. length x.bytes) e ∙ length-append s.bytes _ ∙ ap (λ m. length s.bytes + m) (length-branch mask) }

pub tree_turns : (s t : BufferState) (n after : ℕ) (x : Tree) → n ≡ length s.labels → t ≡ apply_all s (fragments n after x) → Turns s t (fresh_labels x) (tree_size x)
tree_turns s t n after x en e =
    let g = tree_grows x s n after en in
    let same = same_run (fragments n after x) s in
    record { unpoisoned = ap (λ x. x.is_poisoned) e ∙ same.is_poisoned; blocks = ap (λ x. x.block_count) e ∙ same.block_count; constants = ap (λ x. x.constants) e ∙ same.constants; labels = ap (λ x. length x.labels) e ∙ g.labels; bytes = ap (λ x. length x.bytes) e ∙ g.bytes }

-- a member before the rest
pub member_passed_of : (own : Tree) (flags : IsaFlags) (s s1 : BufferState) (after nominal depth : ℕ) (whole rest : Tree) → whole ≡ joined own rest → s1 ≡ apply s StartStep → TreeFits flags s after nominal depth whole → TreeFits flags s1 after nominal depth own
member_passed_of own flags s s1 after nominal depth whole rest is e p =
    let q : TreeFits flags s after nominal depth (joined own rest) = subst (TreeFits flags s after nominal depth) is p in
    let here : TreeFits flags (apply s StartStep) after nominal depth own = record {
      unpoisoned = q.unpoisoned;
      blocks = q.blocks;
      label = q.label;
      short = omega (arith, q.short, joined_size own rest);
      passed = first_left _ _ (sym (joined_cause flags (declared_in s) (length s.labels) nominal depth own rest) ∙ q.passed);
    } in
    subst (λ x. TreeFits flags x after nominal depth own) (sym e) here

-- and the rest
pub rest_passed_of : (own : Tree) (flags : IsaFlags) (s s1 s2 : BufferState) (after nominal depth : ℕ) (whole rest : Tree) → Begins own → whole ≡ joined own rest → s1 ≡ apply s StartStep → s2 ≡ apply_all s1 (own_fragments (length s1.labels) after own) →
    TreeFits flags s after nominal depth whole → TreeFits flags s2 after (nominal_behind nominal own) depth rest
rest_passed_of own flags s s1 s2 after nominal depth whole rest begins is e1 e2 p =
    let n = length s.labels in
    let q : TreeFits flags s after nominal depth (joined own rest) = subst (TreeFits flags s after nominal depth) is p in
    let e2' : s2 ≡ apply_all (apply s StartStep) (own_fragments n after own) = e2 ∙ ap (λ x. apply_all x (own_fragments (length x.labels) after own)) e1 in
    let t = tree_turns s s2 n after own refl (e2' ∙ sym (own_run own s n after begins)) in
    let m = nominal_behind nominal own in
    let cause : tree_cause flags (declared_in s) (n + fresh_labels own) m depth rest ≡ None = first_right (tree_cause flags (declared_in s) n nominal depth own) _ (sym (joined_cause flags (declared_in s) n nominal depth own rest) ∙ q.passed) in
    record {
      unpoisoned = t.unpoisoned ∙ q.unpoisoned;
      blocks = omega (arith, t.blocks, t.labels, q.blocks);
      label = λ d. omega (arith, t.labels, q.label d);
      short = omega (arith, t.bytes, q.short, joined_size own rest);
      passed = ap (λ D. tree_cause flags D (length s2.labels) m depth rest) (turns_declared s s2 _ _ t) ∙ ap (λ l. tree_cause flags (declared_in s) l m depth rest) t.labels ∙ cause;
    }

-- the next member of a loop
pub member_passed : (state : Emission) (flags : IsaFlags) (s s1 : BufferState) (after depth : ℕ) (is : List Inst) (k : ℕ) (i : Inst) → k < length is → i ≡ get_or is k i → s1 ≡ apply s StartStep → TreeFits flags s after state.nominal depth (members_of flags state (drop k is)) → TreeFits flags s1 after state.nominal depth (member_of flags state i)
member_passed state flags s s1 after depth is k i lt at = member_passed_of (member_of flags state i) flags s s1 after state.nominal depth (members_of flags state (drop k is)) (members_of flags (state_after state i) (drop (k + 1) is)) (members_behind flags state is k i lt at)

-- and those behind it
pub others_passed : (state : Emission) (flags : IsaFlags) (s s1 s2 : BufferState) (after depth : ℕ) (is : List Inst) (k : ℕ) (i : Inst) → k < length is → i ≡ get_or is k i → s1 ≡ apply s StartStep → s2 ≡ apply_all s1 (own_fragments (length s1.labels) after (member_of flags state i)) →
    TreeFits flags s after state.nominal depth (members_of flags state (drop k is)) → TreeFits flags s2 after (nominal_after state.nominal i) depth (members_of flags (state_after state i) (drop (k + 1) is))
others_passed state flags s s1 s2 after depth is k i lt at e1 e2 p =
    let rest = members_of flags (state_after state i) (drop (k + 1) is) in
    subst (λ m. TreeFits flags s2 after m depth rest) (member_nominal flags state state.nominal i)
    (rest_passed_of (member_of flags state i) flags s s1 s2 after state.nominal depth (members_of flags state (drop k is)) rest (member_begins flags state i) (members_behind flags state is k i lt at) e1 e2 p)

-- the next member of a block
pub passed_in_block : (state : Emission) (flags : IsaFlags) (s s1 : BufferState) (after depth : ℕ) (is : List Inst) (k : ℕ) (i : Inst) → k < length is → i ≡ get_or is k i → s1 ≡ apply s StartStep → TreeFits flags s after state.nominal depth (block_members_of flags state (drop k is)) → TreeFits flags s1 after state.nominal depth (member_of flags (safepoint state i) i)
passed_in_block state flags s s1 after depth is k i lt at = member_passed_of (member_of flags (safepoint state i) i) flags s s1 after state.nominal depth (block_members_of flags state (drop k is)) (block_members_of flags (state_after state i) (drop (k + 1) is)) (block_members_behind flags state is k i lt at)

-- the same in the state that is marked as a safepoint
pub marked_passed : (state marked : Emission) (flags : IsaFlags) (s s1 : BufferState) (after depth : ℕ) (is : List Inst) (k : ℕ) (i : Inst) → k < length is → i ≡ get_or is k i → marked ≡ safepoint state i → s1 ≡ apply s StartStep →
    TreeFits flags s after state.nominal depth (block_members_of flags state (drop k is)) → TreeFits flags s1 after marked.nominal depth (member_of flags marked i)
marked_passed state marked flags s s1 after depth is k i lt at same e p =
    subst (λ (x : Emission). TreeFits flags s1 after x.nominal depth (member_of flags x i)) (sym same)
    (subst (λ m. TreeFits flags s1 after m depth (member_of flags (safepoint state i) i)) (sym (safepoint_nominal state i)) (passed_in_block state flags s s1 after depth is k i lt at e p))

-- and those behind it
pub others_in_block : (state : Emission) (flags : IsaFlags) (s s1 s2 : BufferState) (after depth : ℕ) (is : List Inst) (k : ℕ) (i : Inst) → k < length is → i ≡ get_or is k i → s1 ≡ apply s StartStep → s2 ≡ apply_all s1 (own_fragments (length s1.labels) after (member_of flags (safepoint state i) i)) →
    TreeFits flags s after state.nominal depth (block_members_of flags state (drop k is)) → TreeFits flags s2 after (nominal_after state.nominal i) depth (block_members_of flags (state_after state i) (drop (k + 1) is))
others_in_block state flags s s1 s2 after depth is k i lt at e1 e2 p =
    let rest = block_members_of flags (state_after state i) (drop (k + 1) is) in
    subst (λ m. TreeFits flags s2 after m depth rest) (member_nominal flags (safepoint state i) state.nominal i)
    (rest_passed_of (member_of flags (safepoint state i) i) flags s s1 s2 after state.nominal depth (block_members_of flags state (drop k is)) rest (member_begins flags (safepoint state i) i) (block_members_behind flags state is k i lt at) e1 e2 p)

-- a member has no cause by the stack sizes
pub member_stack : (state : Emission) (flags : IsaFlags) (s : BufferState) (after depth : ℕ) (is : List Inst) (k : ℕ) (i : Inst) → k < length is → i ≡ get_or is k i → TreeFits flags s after state.nominal depth (members_of flags state (drop k is)) → stack_cause state.nominal depth i ≡ None
member_stack state flags s after depth is k i lt at p =
    no_stack_cause flags state (declared_in (apply s StartStep)) (length s.labels) state.nominal depth i (member_passed state flags s (apply s StartStep) after depth is k i lt at refl p).passed

-- a loop has two labels left, and its members pass
pub record LoopPassed (flags : IsaFlags) (s : BufferState) (nominal depth : ℕ) (members : Tree) : Type 0 where
  pub unpoisoned : s.is_poisoned ≡ false
  pub blocks : s.block_count ≤ length s.labels
  pub drawn : length s.labels + 2 ≤ label_limit
  pub short : length s.bytes + (tree_size members + 6) < 2147483648
  pub passed : tree_cause flags (declared_in s) (length s.labels + 2) nominal (depth + 1) members ≡ None

pub loop_passed : (flags : IsaFlags) (s : BufferState) (after nominal depth mask : ℕ) (members : Tree) → TreeFits flags s after nominal depth (loop_node mask members empty) → LoopPassed flags s nominal depth members
loop_passed flags s after nominal depth mask members p =
    let n = length s.labels in
    let opens = first_emit_cause (nesting_cause depth) (numbers_cause n 2) in
    let inner = tree_cause flags (declared_in s) (n + 2) nominal (depth + 1) members in
    let both : first_emit_cause opens inner ≡ None = first_left _ _ p.passed in
    let numbers : numbers_cause n 2 ≡ None = first_right (nesting_cause depth) _ (first_left _ _ both) in
    let lt : n + 2 < 4294967297 = ltb-true (n + 2) 4294967297 (unless_true (nat_lt (n + 2) 4294967297) LabelOutOfRange numbers) in
    record {
      unpoisoned = p.unpoisoned;
      blocks = p.blocks;
      drawn = omega arith;
      short = omega (arith, p.short);
      passed = first_right opens inner both;
    }

pub inner_passed : (flags : IsaFlags) (s so : BufferState) (nominal depth end k : ℕ) (members : Tree) → LoopPassed flags s nominal depth members → Turns s so 2 0 → end < length so.labels → TreeFits flags so end nominal (depth + 1) members
inner_passed flags s so nominal depth end k members p t lt = record {
  unpoisoned = t.unpoisoned ∙ p.unpoisoned;
  blocks = omega (arith, t.blocks, t.labels, p.blocks);
  label = λ d. lt;
  short = omega (arith, t.bytes, p.short);
  passed = ap (λ D. tree_cause flags D (length so.labels) nominal (depth + 1) members) (turns_declared s so 2 0 t) ∙ ap (λ m. tree_cause flags (declared_in s) m nominal (depth + 1) members) t.labels ∙ p.passed;
}

pub turns_on : (s t u : BufferState) (k m k' m' : ℕ) → Turns s t k m → Turns t u k' m' → Turns s u (k + k') (m + m')
turns_on s t u k m k' m' a b = record {
  unpoisoned = b.unpoisoned ∙ a.unpoisoned;
  blocks = b.blocks ∙ a.blocks;
  constants = b.constants ∙ a.constants;
  labels = omega (arith, a.labels, b.labels);
  bytes = omega (arith, a.bytes, b.bytes);
}

pub members_unpoisoned : (s sa sb so sc : BufferState) (start end : ℕ) (members : Tree) → sa ≡ apply s Draw → sb ≡ apply sa Draw → so ≡ apply sb (Bind start) → sc ≡ apply_all so (fragments (length so.labels) end members) → sc.is_poisoned ≡ s.is_poisoned
members_unpoisoned s sa sb so sc start end members ea eb eo ec = (tree_turns so sc (length so.labels) end members refl ec).unpoisoned ∙ (bind_turns sb so start eo).unpoisoned ∙ (draw_turns sa sb eb).unpoisoned ∙ (draw_turns s sa ea).unpoisoned

-- up to a loop's back branch
pub body_turns : (s sa sb so sc sd : BufferState) (start end : ℕ) (members : Tree) → sa ≡ apply s Draw → sb ≡ apply sa Draw → so ≡ apply sb (Bind start) → sc ≡ apply_all so (fragments (length so.labels) end members) → sd ≡ apply sc StartStep → Turns s sd (2 + fresh_labels members) (tree_size members)
body_turns s sa sb so sc sd start end members ea eb eo ec ed =
    let a = draw_turns s sa ea in
    let b = draw_turns sa sb eb in
    let o = bind_turns sb so start eo in
    let m = tree_turns so sc (length so.labels) end members refl ec in
    let d = step_turns sc sd ed in
    record {
      unpoisoned = d.unpoisoned ∙ m.unpoisoned ∙ o.unpoisoned ∙ b.unpoisoned ∙ a.unpoisoned;
      blocks = d.blocks ∙ m.blocks ∙ o.blocks ∙ b.blocks ∙ a.blocks;
      constants = d.constants ∙ m.constants ∙ o.constants ∙ b.constants ∙ a.constants;
      labels = omega (arith, a.labels, b.labels, o.labels, m.labels, d.labels);
      bytes = omega (arith, a.bytes, b.bytes, o.bytes, m.bytes, d.bytes);
    }

-- the back branch
pub back_passed : (flags : IsaFlags) (s sd : BufferState) (start nominal depth : ℕ) (members : Tree) → LoopPassed flags s nominal depth members → Turns s sd (2 + fresh_labels members) (tree_size members) → start ≡ length s.labels → FitsWithoutCause sd start 6 None
back_passed flags s sd start nominal depth members l t e = record {
  unpoisoned = t.unpoisoned ∙ l.unpoisoned;
  blocks = omega (arith, t.blocks, t.labels, l.blocks);
  label = omega (arith, t.labels, e);
  short = omega (arith, t.bytes, l.short);
  passed = refl;
}

-- the label behind the loop
pub end_below : (s sa sd se : BufferState) (mask start end depth : ℕ) (members : Tree) → sa ≡ apply s Draw → end ≡ length sa.labels → Turns s sd (2 + fresh_labels members) (tree_size members) → se ≡ apply sd (branch mask start) → end < length se.labels
end_below s sa sd se mask start end depth members ea een t ee =
    let a = draw_turns s sa ea in
    let g = branch_turns sd se mask start ee in
    omega (arith, a.labels, een, t.labels, g.labels)
