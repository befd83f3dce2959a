-- The check goes on from member to member.
use Rattle.std.proofs.Common.{◌≡◌, ◌⊎◌, inl, inr, ℕ, Result, Ok, Err, MatchResult, ◌+◌, ◌<◌, min, drop, get_or, length, List, None, Some, sym, ap, ◌∙◌, arith, subst}
use Rattle.s390x_inst.specs.Emission.{Emission}
use Rattle.s390x_inst.specs.declared.state.IsaFlags.{IsaFlags}
use Rattle.s390x_base.specs.declared.error.EmitError.{EmitError}
use Rattle.s390x_base.specs.declared.error.EmitError.TheVariants.{NoMemory}
use Rattle.s390x_inst.specs.declared.inst.Inst.{Inst}
use Rattle.s390x_typed_steps.specs.Tree.{Tree, empty, loop_node}
use Rattle.s390x_typed_steps.specs.Calls.{safepoint}
use Rattle.s390x_typed_steps.specs.Sizes.{instruction_size, tree_size}
use Rattle.s390x_typed_steps.specs.Stack.{state_after}
use Rattle.s390x_typed_steps.specs.Causes.{Declared, first_emit_cause, fresh_labels, nesting_cause, numbers_cause, instruction_cause, instruction_fresh_labels, leaf_cause, tree_cause, nominal_behind}
use Rattle.s390x_typed_steps.proofs.Trees.{joined, joined_fresh_labels, joined_size, joined_behind}
use Rattle.s390x_typed_steps.proofs.Causes.{first_none, joined_cause}
use Rattle.s390x_emit_int.specs.Sequence.{ChecksTree}
use Rattle.s390x_emit_int.specs.Members.{member_of, members_of, block_members_of}
use Rattle.s390x_emit_int.proofs.Members.{members_behind, block_members_behind, member_nominal}
use Rattle.s390x_emit_int.specs.CodeSize.{Adds, code_limit}
use Rattle.s390x_emit_int.specs.declared.check.CodeSize.{CodeSize}
use Rattle.s390x_emit_int.proofs.Trees.{safepoint_nominal, safepoint_after}

pub capped : (a b x : ℕ) → min code_limit a ≡ min code_limit b → min code_limit (a + x) ≡ min code_limit (b + x)
capped a b x h = omega arith

-- what is left after a member, with what was counted, comes to what was left before it
pub record GoesOn (flags : IsaFlags) (D : Declared) (depth : ℕ) (sum r : CodeSize) (before behind : ℕ) (rest all : Tree) : Type 0 where
  pub cause : tree_cause flags D r.labels behind depth rest ≡ tree_cause flags D sum.labels before depth all
  pub labels : r.labels + fresh_labels rest ≡ sum.labels + fresh_labels all
  pub bytes : min code_limit (r.bytes + tree_size rest) ≡ min code_limit (sum.bytes + tree_size all)
  pub nominal : nominal_behind behind rest ≡ nominal_behind before all

pub goes_on_of : (own : Tree) (flags : IsaFlags) (D : Declared) (nominal depth : ℕ) (sum r : CodeSize) (whole rest : Tree) → whole ≡ joined own rest → tree_cause flags D sum.labels nominal depth own ≡ None →
    Adds sum r (fresh_labels own) (tree_size own) → GoesOn flags D depth sum r nominal (nominal_behind nominal own) rest whole
goes_on_of own flags D nominal depth sum r whole rest is none adds =
    let m = nominal_behind nominal own in
    record {
      cause = ap (λ l. tree_cause flags D l m depth rest) adds.labels ∙ ap (λ o. first_emit_cause o (tree_cause flags D (sum.labels + fresh_labels own) m depth rest)) (sym none) ∙ sym (joined_cause flags D sum.labels nominal depth own rest) ∙ ap (λ t. tree_cause flags D sum.labels nominal depth t) (sym is);
      labels = omega (arith, adds.labels, joined_fresh_labels own rest, ap fresh_labels is);
      bytes = capped r.bytes (sum.bytes + tree_size own) (tree_size rest) adds.bytes ∙ ap (λ n. min code_limit n) (omega (arith, joined_size own rest, ap tree_size is));
      nominal = sym (joined_behind nominal own rest) ∙ ap (nominal_behind nominal) (sym is);
    }

-- in a loop
pub goes_on : (state next : Emission) (flags : IsaFlags) (D : Declared) (depth : ℕ) (sum r : CodeSize) (is : List Inst) (k : ℕ) (i : Inst) → k < length is → i ≡ get_or is k i → next ≡ state_after state i → tree_cause flags D sum.labels state.nominal depth (member_of flags state i) ≡ None →
    Adds sum r (fresh_labels (member_of flags state i)) (tree_size (member_of flags state i)) → GoesOn flags D depth sum r state.nominal next.nominal (members_of flags next (drop (k + 1) is)) (members_of flags state (drop k is))
goes_on state next flags D depth sum r is k i lt at on none adds =
    subst (λ (e : Emission). GoesOn flags D depth sum r state.nominal e.nominal (members_of flags e (drop (k + 1) is)) (members_of flags state (drop k is))) (sym on)
    (subst (λ m. GoesOn flags D depth sum r state.nominal m (members_of flags (state_after state i) (drop (k + 1) is)) (members_of flags state (drop k is))) (member_nominal flags state state.nominal i)
    (goes_on_of (member_of flags state i) flags D state.nominal depth sum r (members_of flags state (drop k is)) (members_of flags (state_after state i) (drop (k + 1) is)) (members_behind flags state is k i lt at) none adds))

-- in a block
pub goes_on_in_block : (state next : Emission) (flags : IsaFlags) (D : Declared) (depth : ℕ) (sum r : CodeSize) (is : List Inst) (k : ℕ) (i : Inst) → k < length is → i ≡ get_or is k i → next ≡ state_after state i → tree_cause flags D sum.labels state.nominal depth (member_of flags (safepoint state i) i) ≡ None →
    Adds sum r (fresh_labels (member_of flags (safepoint state i) i)) (tree_size (member_of flags (safepoint state i) i)) → GoesOn flags D depth sum r state.nominal next.nominal (block_members_of flags next (drop (k + 1) is)) (block_members_of flags state (drop k is))
goes_on_in_block state next flags D depth sum r is k i lt at on none adds =
    subst (λ (e : Emission). GoesOn flags D depth sum r state.nominal e.nominal (block_members_of flags e (drop (k + 1) is)) (block_members_of flags state (drop k is))) (sym on)
    (subst (λ m. GoesOn flags D depth sum r state.nominal m (block_members_of flags (state_after state i) (drop (k + 1) is)) (block_members_of flags state (drop k is))) (member_nominal flags (safepoint state i) state.nominal i)
    (goes_on_of (member_of flags (safepoint state i) i) flags D state.nominal depth sum r (block_members_of flags state (drop k is)) (block_members_of flags (state_after state i) (drop (k + 1) is)) (block_members_behind flags state is k i lt at) none adds))

-- want of memory, or a cause that is another one's
pub or_cause_of : {A B C : Type 0} → A ⊎ B → (B → C) → A ⊎ C
or_cause_of (inl a) f = inl a
or_cause_of (inr b) f = inr (f b)

-- ---- a member of a block, whose state is marked as a safepoint

pub marked_cause : (flags : IsaFlags) (D : Declared) (n depth : ℕ) (state marked : Emission) (i : Inst) → marked ≡ safepoint state i → tree_cause flags D n marked.nominal depth (member_of flags marked i) ≡ tree_cause flags D n state.nominal depth (member_of flags (safepoint state i) i)
marked_cause flags D n depth state marked i is =
    ap (λ (e : Emission). tree_cause flags D n e.nominal depth (member_of flags e i)) is ∙ ap (λ m. tree_cause flags D n m depth (member_of flags (safepoint state i) i)) (safepoint_nominal state i)

pub marked_goes_on : (state marked next : Emission) (flags : IsaFlags) (D : Declared) (depth : ℕ) (sum r : CodeSize) (is : List Inst) (k : ℕ) (i : Inst) → k < length is → i ≡ get_or is k i → marked ≡ safepoint state i → next ≡ state_after marked i → tree_cause flags D sum.labels marked.nominal depth (member_of flags marked i) ≡ None →
    Adds sum r (fresh_labels (member_of flags marked i)) (tree_size (member_of flags marked i)) → GoesOn flags D depth sum r state.nominal next.nominal (block_members_of flags next (drop (k + 1) is)) (block_members_of flags state (drop k is))
marked_goes_on state marked next flags D depth sum r is k i lt at same on none adds =
    goes_on_in_block state next flags D depth sum r is k i lt at (on ∙ ap (λ (e : Emission). state_after e i) same ∙ safepoint_after state i) (sym (marked_cause flags D sum.labels depth state marked i same) ∙ none)
    (subst (λ (e : Emission). Adds sum r (fresh_labels (member_of flags e i)) (tree_size (member_of flags e i))) same adds)

-- ---- the answer for one instruction

-- a loop's answer is that of its tree
pub loop_answer : (flags : IsaFlags) (D : Declared) (nominal depth : ℕ) (t : CodeSize) (mask : ℕ) (x members : Tree) (result : Result CodeSize EmitError) → x ≡ loop_node mask members empty →
    MatchResult result (λ r. (first_emit_cause (first_emit_cause (nesting_cause depth) (numbers_cause t.labels 2)) (tree_cause flags D (t.labels + 2) nominal (depth + 1) members) ≡ None) × Adds t r (2 + fresh_labels members) (tree_size members + 6))
    (λ e. (e ≡ NoMemory) ⊎ (first_emit_cause (first_emit_cause (nesting_cause depth) (numbers_cause t.labels 2)) (tree_cause flags D (t.labels + 2) nominal (depth + 1) members) ≡ Some e)) →
    ChecksTree flags D t depth nominal x result
loop_answer flags D nominal depth t mask x members (Ok r) e p =
    let z = ap (tree_cause flags D t.labels nominal depth) e ∙ first_none (first_emit_cause (first_emit_cause (nesting_cause depth) (numbers_cause t.labels 2)) (tree_cause flags D (t.labels + 2) nominal (depth + 1) members)) in (
      z ∙ p.0,
      record {
        counted = p.1.counted;
        labels = omega (arith, p.1.labels, ap fresh_labels e);
        bytes = p.1.bytes ∙ ap (λ m. min code_limit m) (omega (arith, ap tree_size e));
      },
    )
loop_answer flags D nominal depth t mask x members (Err d) e p = or_cause_of p (λ h. ap (tree_cause flags D t.labels nominal depth) e ∙ first_none _ ∙ h)

-- an instruction without a cause adds its labels, unless their numbers are too many
pub no_cause : (flags : IsaFlags) (D : Declared) (nominal depth : ℕ) (t : CodeSize) (i : Inst) (labels bytes : ℕ) (result : Result CodeSize EmitError) → instruction_cause flags D nominal depth i ≡ None → labels ≡ instruction_fresh_labels i → min code_limit bytes ≡ min code_limit (instruction_size i) →
    MatchResult result (λ r. (numbers_cause t.labels labels ≡ None) × Adds t r labels bytes) (λ e. numbers_cause t.labels labels ≡ Some e) →
    MatchResult result (λ r. (leaf_cause flags D t.labels nominal depth i ≡ None) × Adds t r (instruction_fresh_labels i) (instruction_size i)) (λ e. leaf_cause flags D t.labels nominal depth i ≡ Some e)
no_cause flags D nominal depth t i labels bytes (Ok r) none fresh_labels size p = (
  ap (λ o. first_emit_cause o (numbers_cause t.labels (instruction_fresh_labels i))) none ∙ sym (ap (numbers_cause t.labels) fresh_labels) ∙ p.0,
  record {
    counted = p.1.counted;
    labels = omega (arith, p.1.labels, fresh_labels);
    bytes = p.1.bytes ∙ (omega (arith, size));
  },
)
no_cause flags D nominal depth t i labels bytes (Err e) none fresh_labels size p = ap (λ o. first_emit_cause o (numbers_cause t.labels (instruction_fresh_labels i))) none ∙ sym (ap (numbers_cause t.labels) fresh_labels) ∙ p
