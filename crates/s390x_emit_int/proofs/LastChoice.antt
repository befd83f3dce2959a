-- A block that ends with a choice whose second branch leads to the next block.
use Rattle.std.specs.Prelude.{slice_get, take, suc}
use Rattle.std.proofs.Common.{◌≡◌, ◌≢◌, ℕ, ◌+◌, ◌<◌, List, [], ◌∷◌, ◌++◌, length, Some, None, cond, nat_eq, refl, sym, ap, ◌∙◌, subst, arith, eq-eqb, ne_eqb, nat_lt, lt-ltb, ◌-◌, Option}
use Rattle.s390x_base.specs.declared.error.EmitError.{EmitError}
use Rattle.s390x_base.specs.declared.error.EmitError.TheVariants.{BadStackState, LabelOutOfRange}
use Rattle.s390x_buffer.specs.State.{BufferState, limit}
use Rattle.s390x_inst.specs.Emission.{Emission}
use Rattle.s390x_inst.specs.declared.inst.Inst.{Inst}
use Rattle.s390x_inst.specs.declared.state.IsaFlags.{IsaFlags}
use Rattle.s390x_typed_steps.specs.Baseline.{tree_for}
use Rattle.s390x_typed_steps.specs.Calls.{safepoint}
use Rattle.s390x_typed_steps.specs.Causes.{Declared, first_emit_cause, unless, declared_in, target_label_cause, instruction_cause, leaf_cause, numbers_cause, fresh_labels, nominal_behind, tree_cause, block_cause}
use Rattle.s390x_typed_steps.specs.Folding.{body_with_remainder, folded_members}
use Rattle.s390x_typed_steps.specs.Ranges.{IsConditionMask, AllInRange}
use Rattle.s390x_typed_steps.specs.Sizes.{tree_size}
use Rattle.s390x_typed_steps.specs.Stack.{state_after}
use Rattle.s390x_typed_steps.specs.Tree.{NothingLeft, BranchLeft, Tree, Whole, Folded, empty, leaf, loop_node, prepend, block_tree}
use Rattle.s390x_typed_steps.proofs.Baseline.{for_prepend}
use Rattle.s390x_typed_steps.proofs.Causes.{first_left, first_right, joined_cause}
use Rattle.s390x_typed_steps.proofs.Trees.{joined, joined_behind, joined_size}
use Rattle.s390x_emit_int.specs.Emission.{branch, fragments}
use Rattle.s390x_emit_int.specs.Fragments.{StartStep, apply, apply_all}
use Rattle.s390x_emit_int.specs.LastChoice.{choice_of, IsLastOf}
use Rattle.s390x_emit_int.specs.Members.{block_members_of}
use Rattle.s390x_emit_int.specs.Room.{FitsWithoutCause, MembersFit, TreeFits}
use Rattle.s390x_emit_int.specs.declared.last_choice.LastChoice.{LastChoice}
use Rattle.s390x_emit_int.proofs.Blocks.{members_passed, block_none, block_ends}
use Rattle.s390x_emit_int.proofs.Emitting.{both_none}
use Rattle.s390x_emit_int.proofs.Leaves.{choice_passed}
use Rattle.s390x_emit_int.proofs.Passing.{Turns, step_turns, tree_turns}
use Rattle.s390x_emit_int.proofs.Runs.{run-append}
use Rattle.s390x_emit_int.proofs.Shortening.{folded_joined}
use Rattle.s390x_emit_int.proofs.Trees.{fragments_joined, ranges_joined}

-- the instructions before the last one
abbrev pub others_of : List Inst → List Inst
others_of is = take (length is - 1) is

-- the last one stands behind them
list_end : (is : List Inst) (i : Inst) → slice_get is (length is - 1) ≡ Some i → is ≡ others_of is ++ i ∷ []
list_end [] i e = absurd (cc)
list_end (j ∷ []) i e =
    let one : length (j ∷ []) - 1 ≡ 0 = omega arith in
    let own : Some j ≡ Some i = ap (slice_get (j ∷ [])) (sym one) ∙ e in
    let same : j ≡ i = cc in
    ap (λ k. k ∷ []) same ∙ ap (λ n. take n (j ∷ []) ++ i ∷ []) (sym one)
list_end (j ∷ (k ∷ is)) i e =
    let behind : length (j ∷ (k ∷ is)) - 1 ≡ suc (length (k ∷ is) - 1) = omega arith in
    ap (λ l. j ∷ l) (list_end (k ∷ is) i (ap (slice_get (j ∷ (k ∷ is))) (sym behind) ∙ e))
    ∙ ap (λ n. take n (j ∷ (k ∷ is)) ++ i ∷ []) (sym behind)

-- the choice alone, and what is left of it
abbrev pub choice_leaf : LastChoice → Tree
choice_leaf c = leaf (Whole (choice_of c)) empty

abbrev pub branch_leaf : LastChoice → Tree
branch_leaf c = leaf (Folded (BranchLeft c.cond c.taken.0) (choice_of c)) empty

-- why its labels name no blocks
abbrev pub labels_cause : (blocks : ℕ) → LastChoice → Option EmitError
labels_cause blocks c = first_emit_cause (target_label_cause blocks c.taken) (target_label_cause blocks c.not_taken)

joined_again : (t u v : Tree) → joined (joined t u) v ≡ joined t (joined u v)
joined_again empty u v = refl
joined_again (leaf b t) u v = ap (leaf b) (joined_again t u v)
joined_again (loop_node mask members t) u v = ap (loop_node mask members) (joined_again t u v)

-- it stands behind the other instructions
choice_behind : (flags : IsaFlags) (e : Emission) (is : List Inst) (c : LastChoice) → block_members_of flags e (is ++ choice_of c ∷ []) ≡ joined (block_members_of flags e is) (choice_leaf c)
choice_behind flags e [] c = refl
choice_behind flags e (i ∷ is) c =
    let own = tree_for flags (prepend (safepoint e i) i empty) in
    let next = state_after e i in
    for_prepend flags (safepoint e i) i (block_tree next (is ++ choice_of c ∷ []))
    ∙ ap (joined own) (choice_behind flags next is c)
    ∙ sym (joined_again own (block_members_of flags next is) (choice_leaf c))
    ∙ ap (λ t. joined t (choice_leaf c)) (sym (for_prepend flags (safepoint e i) i (block_tree next is)))

pub choice_last : (flags : IsaFlags) (e : Emission) (is : List Inst) (c : LastChoice) → IsLastOf is c → block_members_of flags e is ≡ joined (block_members_of flags e (others_of is)) (choice_leaf c)
choice_last flags e is c last = ap (block_members_of flags e) (list_end is (choice_of c) last) ∙ choice_behind flags e (others_of is) c

-- ---- a tree that ends with the choice

-- what is left of it before the next block
left_before : (c : LastChoice) → c.taken.0 ≢ c.not_taken.0 →
    cond (nat_eq c.not_taken.0 c.not_taken.0) (cond (nat_eq c.taken.0 c.not_taken.0) (Some NothingLeft) (Some (BranchLeft c.cond c.taken.0))) (cond (nat_eq c.taken.0 c.not_taken.0) (Some (BranchLeft (15 - c.cond) c.not_taken.0)) None)
    ≡ Some (BranchLeft c.cond c.taken.0)
left_before c apart =
    ap (λ b. cond b (cond (nat_eq c.taken.0 c.not_taken.0) (Some NothingLeft) (Some (BranchLeft c.cond c.taken.0))) (cond (nat_eq c.taken.0 c.not_taken.0) (Some (BranchLeft (15 - c.cond) c.not_taken.0)) None)) (eq-eqb c.not_taken.0 c.not_taken.0 refl)
    ∙ ap (λ b. cond b (Some NothingLeft) (Some (BranchLeft c.cond c.taken.0))) (ne_eqb c.taken.0 c.not_taken.0 apart)

folded_choice : (own t : Tree) (c : LastChoice) → t ≡ joined own (choice_leaf c) → c.taken.0 ≢ c.not_taken.0 → folded_members c.not_taken.0 t ≡ joined own (branch_leaf c)
folded_choice own t c is apart =
    ap (folded_members c.not_taken.0) is
    ∙ folded_joined c.not_taken.0 own (choice_leaf c) tt
    ∙ ap (λ r. joined own (leaf (body_with_remainder r (choice_of c)) empty)) (left_before c apart)

-- the buffer behind it
pub choice_run : (own t : Tree) (c : LastChoice) (s s2 : BufferState) → t ≡ joined own (choice_leaf c) → c.taken.0 ≢ c.not_taken.0 → s2 ≡ apply_all s (fragments (length s.labels) 0 own) →
    apply (apply s2 StartStep) (branch c.cond c.taken.0) ≡ apply_all s (fragments (length s.labels) 0 (folded_members c.not_taken.0 t))
choice_run own t c s s2 is apart put =
    let n = length s.labels in
    ap (λ x. apply (apply x StartStep) (branch c.cond c.taken.0)) put
    ∙ sym (run-append s (fragments n 0 own) (fragments (n + fresh_labels own) 0 (branch_leaf c)))
    ∙ ap (apply_all s) (sym (fragments_joined own (branch_leaf c) n 0))
    ∙ ap (λ u. apply_all s (fragments n 0 u)) (sym (folded_choice own t c is apart))

-- how long it is in full
pub choice_size : (own t : Tree) (c : LastChoice) → t ≡ joined own (choice_leaf c) → tree_size t ≡ tree_size own + 12
choice_size own t c is = ap tree_size is ∙ joined_size own (choice_leaf c)

pub choice_ranges : (own t : Tree) (c : LastChoice) → t ≡ joined own (choice_leaf c) → AllInRange own → IsConditionMask c.cond → AllInRange t
choice_ranges own t c is ranges mask = subst AllInRange (sym is) (ranges_joined own (choice_leaf c) ranges ((mask, tt), tt))

-- the nominal size stays
choice_nominal : (nominal end : ℕ) (own : Tree) (c : LastChoice) → end ≡ nominal_behind nominal own → end ≡ nominal_behind nominal (joined own (choice_leaf c))
choice_nominal nominal end own c behind = behind ∙ sym (joined_behind nominal own (choice_leaf c))

-- what has no cause where its members have none, its labels name blocks, and it ends at the nominal size 0
pub choice_none : (own t : Tree) (c : LastChoice) (flags : IsaFlags) (nominal end : ℕ) (s s2 : BufferState) → t ≡ joined own (choice_leaf c) → nominal ≡ 0 → s2 ≡ apply_all s (fragments (length s.labels) 0 own) →
    tree_cause flags (declared_in s) (length s.labels) nominal 0 own ≡ None → end ≡ nominal_behind nominal own → unless (nat_eq end 0) BadStackState ≡ None →
    numbers_cause (length s2.labels) 0 ≡ None → labels_cause s2.block_count c ≡ None → block_cause flags (declared_in s) (length s.labels) t ≡ None
choice_none own t c flags nominal end s s2 is start put members behind ends numbers labels =
    let n = length s.labels in
    let D = declared_in s in
    let m = nominal_behind nominal own in
    let turns = tree_turns s s2 n 0 own refl put in
    let numbered : numbers_cause (n + fresh_labels own) 0 ≡ None = ap (λ k. numbers_cause k 0) (sym turns.labels) ∙ numbers in
    let named : labels_cause s.block_count c ≡ None = ap (λ k. labels_cause k c) (sym turns.blocks) ∙ labels in
    let last : tree_cause flags D (n + fresh_labels own) m 0 (choice_leaf c) ≡ None = both_none _ _ (both_none _ _ named numbered) refl in
    block_none flags D n nominal end t (joined own (choice_leaf c)) start (sym is)
    (joined_cause flags D n nominal 0 own (choice_leaf c) ∙ both_none _ _ members last)
    (choice_nominal nominal end own c behind) ends

-- ---- where the check let it pass

joined_passed : (own t : Tree) (c : LastChoice) (flags : IsaFlags) (nominal : ℕ) (s : BufferState) → t ≡ joined own (choice_leaf c) → nominal ≡ 0 → MembersFit s 0 0 (tree_size t) (block_cause flags (declared_in s) (length s.labels) t) →
    TreeFits flags s 0 nominal 0 (joined own (choice_leaf c))
joined_passed own t c flags nominal s is start p = members_passed flags s nominal t (joined own (choice_leaf c)) start (sym is) p

pub others_passed : (own t : Tree) (c : LastChoice) (flags : IsaFlags) (nominal : ℕ) (s : BufferState) → t ≡ joined own (choice_leaf c) → nominal ≡ 0 → MembersFit s 0 0 (tree_size t) (block_cause flags (declared_in s) (length s.labels) t) →
    TreeFits flags s 0 nominal 0 own
others_passed own t c flags nominal s is start p =
    let q = joined_passed own t c flags nominal s is start p in
    record {
      unpoisoned = p.unpoisoned;
      blocks = p.blocks;
      label = p.label;
      short = omega (arith, q.short, joined_size own (choice_leaf c));
      passed = first_left _ _ (sym (joined_cause flags (declared_in s) (length s.labels) nominal 0 own (choice_leaf c)) ∙ q.passed);
    }

pub ends_passed : (own t : Tree) (c : LastChoice) (flags : IsaFlags) (nominal end : ℕ) (s : BufferState) → t ≡ joined own (choice_leaf c) → nominal ≡ 0 → MembersFit s 0 0 (tree_size t) (block_cause flags (declared_in s) (length s.labels) t) →
    end ≡ nominal_behind nominal own → unless (nat_eq end 0) BadStackState ≡ None
ends_passed own t c flags nominal end s is start p behind =
    block_ends flags (declared_in s) (length s.labels) nominal end t (joined own (choice_leaf c)) start (sym is) (choice_nominal nominal end own c behind) p.passed

pub choice_left : (own t : Tree) (c : LastChoice) (flags : IsaFlags) (nominal : ℕ) (s s2 : BufferState) → t ≡ joined own (choice_leaf c) → nominal ≡ 0 → s2 ≡ apply_all s (fragments (length s.labels) 0 own) → MembersFit s 0 0 (tree_size t) (block_cause flags (declared_in s) (length s.labels) t) →
    MembersFit s2 0 0 12 (labels_cause s2.block_count c)
choice_left own t c flags nominal s s2 is start put p =
    let n = length s.labels in
    let D = declared_in s in
    let m = nominal_behind nominal own in
    let turns = tree_turns s s2 n 0 own refl put in
    let q = joined_passed own t c flags nominal s is start p in
    let last : tree_cause flags D (n + fresh_labels own) m 0 (choice_leaf c) ≡ None = first_right (tree_cause flags D n nominal 0 own) _ (sym (joined_cause flags D n nominal 0 own (choice_leaf c)) ∙ q.passed) in
    let own_cause : leaf_cause flags D (n + fresh_labels own) m 0 (choice_of c) ≡ None = first_left (leaf_cause flags D (n + fresh_labels own) m 0 (choice_of c)) None last in
    let labels : labels_cause s.block_count c ≡ None = first_left (instruction_cause flags D m 0 (choice_of c)) _ own_cause in
    record {
      unpoisoned = turns.unpoisoned ∙ p.unpoisoned;
      blocks = omega (arith, turns.blocks, turns.labels, p.blocks);
      label = λ d. omega (arith, turns.labels, p.label d);
      short = omega (arith, turns.bytes, p.short, choice_size own t c is);
      passed = ap (λ k. labels_cause k c) turns.blocks ∙ labels;
    }

-- behind its step's beginning the branch that stays fits
pub branch_passed : (c : LastChoice) (s s1 : BufferState) → s1 ≡ apply s StartStep → MembersFit s 0 0 12 (labels_cause s.block_count c) → FitsWithoutCause s1 c.taken.0 6 None
branch_passed c s s1 e p =
    let turns = step_turns s s1 e in
    let q : MembersFit s1 0 0 12 (labels_cause s1.block_count c) = record {
      unpoisoned = turns.unpoisoned ∙ p.unpoisoned;
      blocks = omega (arith, turns.blocks, turns.labels, p.blocks);
      label = λ d. omega (arith, turns.labels, p.label d);
      short = omega (arith, turns.bytes, p.short);
      passed = ap (λ k. labels_cause k c) turns.blocks ∙ p.passed;
    } in
    let f = (choice_passed s1 0 0 12 c.taken c.not_taken q).0 in
    record { unpoisoned = f.unpoisoned; blocks = f.blocks; label = f.label; short = omega (arith, f.short); passed = refl }

-- and there the choice has no cause
pub no_choice_cause : (c : LastChoice) (s s1 : BufferState) → s1 ≡ apply s StartStep → MembersFit s 0 0 12 (labels_cause s.block_count c) →
    first_emit_cause (labels_cause s1.block_count c) (unless (nat_lt (length s1.bytes + 12) limit) LabelOutOfRange) ≡ None
no_choice_cause c s s1 e p =
    let turns = step_turns s s1 e in
    let below : length s1.bytes + 12 < limit = omega (arith, turns.bytes, p.short) in
    both_none _ _ (ap (λ k. labels_cause k c) turns.blocks ∙ p.passed) (ap (λ b. unless b LabelOutOfRange) (lt-ltb (length s1.bytes + 12) limit below))
