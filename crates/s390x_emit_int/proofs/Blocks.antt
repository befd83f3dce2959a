-- What the check let pass stays passed from block to block.
use Rattle.std.proofs.Common.{◌≡◌, ℕ, suc, ◌+◌, ◌-◌, ◌<◌, List, [], ◌∷◌, cond, Some, nat_lt, length, map, get_or, drop, None, false, nat_eq, refl, sym, ap, ◌∙◌, subst, arith, drop-cons}
use Rattle.s390x_inst.specs.Emission.{Emission}
use Rattle.s390x_inst.specs.declared.state.IsaFlags.{IsaFlags}
use Rattle.s390x_buffer.specs.State.{BufferState, limit}
use Rattle.s390x_inst.specs.declared.function.Block.{Block}
use Rattle.s390x_typed_steps.specs.Tree.{Tree}
use Rattle.s390x_base.specs.declared.error.EmitError.TheVariants.{BadStackState}
use Rattle.std.specs.Prelude.{max}
use Rattle.std.proofs.Math.Nat.{le-max_left, le-max_right, max-le}
use Rattle.std.proofs.lemmas.Bool.{lt-ltb, le-ltb}
use Rattle.std.proofs.lemmas.List.{length-drop}
use Rattle.s390x_typed_steps.specs.Folding.{folded_before, next_block, peak_from}
use Rattle.s390x_typed_steps.proofs.Folding.{before_labels}
use Rattle.s390x_typed_steps.specs.Sizes.{tree_size}
use Rattle.s390x_typed_steps.specs.Causes.{Declared, first_emit_cause, unless, declared_in, fresh_labels, nominal_behind, tree_cause, blocks_cause, block_cause}
use Rattle.s390x_typed_steps.proofs.Causes.{first_left, first_right}
use Rattle.s390x_emit_int.specs.Fragments.{Bind, apply, apply_all}
use Rattle.s390x_emit_int.specs.Emission.{fragments}
use Rattle.s390x_emit_int.specs.Function.{tree_of}
use Rattle.s390x_emit_int.specs.Room.{HasRoom, MembersFit, TreeFits}
use Rattle.s390x_emit_int.proofs.Emitting.{both_none}
use Rattle.s390x_emit_int.proofs.Passing.{turns_declared, bind_turns, tree_turns}

-- the blocks that are left have no cause and fit
pub record BlocksPassed (flags : IsaFlags) (s : BufferState) (D : Declared) (k : ℕ) (ts : List Tree) : Type 0 where
  pub unpoisoned : s.is_poisoned ≡ false
  pub declared : declared_in s ≡ D
  pub short : peak_from k (length s.bytes) ts < limit
  pub passed : blocks_cause flags D (length s.labels) ts ≡ None

-- the blocks that are left are no longer than all were
both_below : (a b n : ℕ) → a < n → b < n → max a b < n
both_below a b n p q = let lower = max-le {a = a} {b = b} {k = n - 1} (omega arith) (omega arith) in omega (arith, lower, p)

pub peak_left : (k before : ℕ) (t : Tree) (ts : List Tree) → peak_from k before (t ∷ ts) < limit → (before + tree_size t < limit) × (peak_from (k + 1) (before + tree_size (folded_before (next_block k ts) t)) ts < limit)
peak_left k before t ts below =
    let later = peak_from (k + 1) (before + tree_size (folded_before (next_block k ts) t)) ts in
    (omega (arith, below, le-max_left (before + tree_size t) later), omega (arith, below, le-max_right (before + tree_size t) later))

pub split_at : (flags : IsaFlags) (state : Emission) (bs : List Block) (k : ℕ) (v : Block) → k < length bs → v ≡ get_or bs k v → map (tree_of flags state) (drop k bs) ≡ tree_of flags state v ∷ map (tree_of flags state) (drop (k + 1) bs)
split_at flags state bs k v lt at =
    let k1 : suc k ≡ k + 1 = omega arith in
    ap (map (tree_of flags state)) (drop-cons bs k v lt ∙ ap (λ x. x ∷ drop (suc k) bs) (sym at) ∙ ap (λ m. v ∷ drop m bs) k1)

-- the next block
pub block_passed : (state : Emission) (flags : IsaFlags) (bs : List Block) (k : ℕ) (D : Declared) (v : Block) (s s1 : BufferState) → k < length bs → v ≡ get_or bs k v → s1 ≡ apply s (Bind k) → k < s.block_count → HasRoom s → BlocksPassed flags s D k (map (tree_of flags state) (drop k bs)) →
    MembersFit s1 0 0 (tree_size (tree_of flags state v)) (block_cause flags (declared_in s1) (length s1.labels) (tree_of flags state v))
block_passed state flags bs k D v s s1 lt at e below room p =
    let t = tree_of flags state v in
    let rest = map (tree_of flags state) (drop (k + 1) bs) in
    let q : BlocksPassed flags s D k (t ∷ rest) = subst (BlocksPassed flags s D k) (split_at flags state bs k v lt at) p in
    let o = bind_turns s s1 k e in
    let few = (peak_left k (length s.bytes) t rest q.short).0 in
    record {
      unpoisoned = o.unpoisoned ∙ q.unpoisoned;
      blocks = omega (arith, o.blocks, o.labels, room);
      label = λ d. omega (arith, below, o.labels, room);
      short = omega (arith, o.bytes, few);
      passed = ap (λ E. block_cause flags E (length s1.labels) t) (turns_declared s s1 0 0 o ∙ q.declared) ∙ ap (λ m. block_cause flags D m t) (o.labels ∙ (omega arith)) ∙ first_left (block_cause flags D (length s.labels) t) _ q.passed;
    }

-- the members of a block that passes
pub members_passed : (flags : IsaFlags) (s : BufferState) (nominal : ℕ) (t x : Tree) → nominal ≡ 0 → x ≡ t → MembersFit s 0 0 (tree_size t) (block_cause flags (declared_in s) (length s.labels) t) → TreeFits flags s 0 nominal 0 x
members_passed flags s nominal t x start same p =
    let q : TreeFits flags s 0 0 0 t = record {
      unpoisoned = p.unpoisoned;
      blocks = p.blocks;
      label = p.label;
      short = p.short;
      passed = first_left (tree_cause flags (declared_in s) (length s.labels) 0 0 t) _ p.passed;
    } in
    subst (λ m. TreeFits flags s 0 m 0 x) (sym start) (subst (λ y. TreeFits flags s 0 0 0 y) (sym same) q)

-- a block whose members have no cause, and which ends at the nominal size 0, has none
pub block_none : (flags : IsaFlags) (D : Declared) (n nominal end : ℕ) (t x : Tree) → nominal ≡ 0 → x ≡ t → tree_cause flags D n nominal 0 x ≡ None → end ≡ nominal_behind nominal x → unless (nat_eq end 0) BadStackState ≡ None → block_cause flags D n t ≡ None
block_none flags D n nominal end t x start same members behind ends =
    let there : tree_cause flags D n 0 0 t ≡ None = sym (ap (λ m. tree_cause flags D n m 0 x) start ∙ ap (tree_cause flags D n 0 0) same) ∙ members in
    let last : end ≡ nominal_behind 0 t = behind ∙ ap (λ m. nominal_behind m x) start ∙ ap (nominal_behind 0) same in
    both_none _ _ there (sym (ap (λ m. unless (nat_eq m 0) BadStackState) last) ∙ ends)

-- and one that passes ends there
pub block_ends : (flags : IsaFlags) (D : Declared) (n nominal end : ℕ) (t x : Tree) → nominal ≡ 0 → x ≡ t → end ≡ nominal_behind nominal x → block_cause flags D n t ≡ None → unless (nat_eq end 0) BadStackState ≡ None
block_ends flags D n nominal end t x start same behind none =
    let last : end ≡ nominal_behind 0 t = behind ∙ ap (λ m. nominal_behind m x) start ∙ ap (nominal_behind 0) same in
    ap (λ m. unless (nat_eq m 0) BadStackState) last ∙ first_right (tree_cause flags D n 0 0 t) _ none

-- the cause of the blocks behind one without a cause is that of all that were left before it
pub more_blocks : (state : Emission) (flags : IsaFlags) (bs : List Block) (k : ℕ) (v : Block) (u : Tree) (s s1 s2 : BufferState) → k < length bs → v ≡ get_or bs k v → fresh_labels u ≡ fresh_labels (tree_of flags state v) → s1 ≡ apply s (Bind k) → s2 ≡ apply_all s1 (fragments (length s1.labels) 0 u) →
    block_cause flags (declared_in s1) (length s1.labels) (tree_of flags state v) ≡ None →
    blocks_cause flags (declared_in s2) (length s2.labels) (map (tree_of flags state) (drop (k + 1) bs)) ≡ blocks_cause flags (declared_in s) (length s.labels) (map (tree_of flags state) (drop k bs))
more_blocks state flags bs k v u s s1 s2 lt at drawn e1 e2 none =
    let t = tree_of flags state v in
    let rest = map (tree_of flags state) (drop (k + 1) bs) in
    let o = bind_turns s s1 k e1 in
    let m = tree_turns s1 s2 (length s1.labels) 0 u refl e2 in
    let D = declared_in s in
    let count : length s1.labels ≡ length s.labels = o.labels ∙ (omega arith) in
    let labels : length s2.labels ≡ length s.labels + fresh_labels t = omega (arith, count, m.labels, drawn) in
    let here : block_cause flags D (length s.labels) t ≡ None = sym (ap (λ E. block_cause flags E (length s1.labels) t) (turns_declared s s1 0 0 o) ∙ ap (λ l. block_cause flags D l t) count) ∙ none in
    let later = blocks_cause flags D (length s.labels + fresh_labels t) rest in
    ap (λ E. blocks_cause flags E (length s2.labels) rest) (turns_declared s1 s2 _ _ m ∙ turns_declared s s1 0 0 o)
    ∙ ap (λ l. blocks_cause flags D l rest) labels
    ∙ ap (λ c. first_emit_cause c later) (sym here)
    ∙ ap (blocks_cause flags D (length s.labels)) (sym (split_at flags state bs k v lt at))

-- what is declared stays behind a block
pub block_declared : (k : ℕ) (t : Tree) (s s1 s2 : BufferState) → s1 ≡ apply s (Bind k) → s2 ≡ apply_all s1 (fragments (length s1.labels) 0 t) → declared_in s2 ≡ declared_in s
block_declared k t s s1 s2 e1 e2 = turns_declared s1 s2 _ _ (tree_turns s1 s2 (length s1.labels) 0 t refl e2) ∙ turns_declared s s1 0 0 (bind_turns s s1 k e1)

-- and those behind it
pub others_passed : (state : Emission) (flags : IsaFlags) (bs : List Block) (k : ℕ) (D : Declared) (v : Block) (s s1 s2 : BufferState) → k < length bs → v ≡ get_or bs k v → s1 ≡ apply s (Bind k) → s2 ≡ apply_all s1 (fragments (length s1.labels) 0 (folded_before (next_block k (map (tree_of flags state) (drop (k + 1) bs))) (tree_of flags state v))) →
    BlocksPassed flags s D k (map (tree_of flags state) (drop k bs)) → BlocksPassed flags s2 D (k + 1) (map (tree_of flags state) (drop (k + 1) bs))
others_passed state flags bs k D v s s1 s2 lt at e1 e2 p =
    let t = tree_of flags state v in
    let rest = map (tree_of flags state) (drop (k + 1) bs) in
    let q : BlocksPassed flags s D k (t ∷ rest) = subst (BlocksPassed flags s D k) (split_at flags state bs k v lt at) p in
    let u = folded_before (next_block k rest) t in
    let o = bind_turns s s1 k e1 in
    let m = tree_turns s1 s2 (length s1.labels) 0 u refl e2 in
    let labels : length s2.labels ≡ length s.labels + fresh_labels t = omega (arith, o.labels, m.labels, before_labels (next_block k rest) t) in
    let put : length s2.bytes ≡ length s.bytes + tree_size u = omega (arith, o.bytes, m.bytes) in
    record {
      unpoisoned = m.unpoisoned ∙ o.unpoisoned ∙ q.unpoisoned;
      declared = turns_declared s1 s2 _ _ m ∙ turns_declared s s1 0 0 o ∙ q.declared;
      short = subst (λ n. peak_from (k + 1) n rest < limit) (sym put) (peak_left k (length s.bytes) t rest q.short).1;
      passed = ap (λ n. blocks_cause flags D n rest) labels ∙ first_right (block_cause flags D (length s.labels) t) _ q.passed;
    }

-- the block behind number k
pub next_is : (flags : IsaFlags) (state : Emission) (bs : List Block) (k : ℕ) → next_block k (map (tree_of flags state) (drop (k + 1) bs)) ≡ cond (nat_lt (k + 1) (length bs)) (Some (k + 1)) None
next_is flags state bs k = go (drop (k + 1) bs) (length-drop (k + 1) bs)
  where
    go : (ds : List Block) → length ds ≡ length bs - (k + 1) → next_block k (map (tree_of flags state) ds) ≡ cond (nat_lt (k + 1) (length bs)) (Some (k + 1)) None
    go [] few = ap (λ t. cond t (Some (k + 1)) None) (sym (le-ltb (k + 1) (length bs) (omega (arith, few))))
    go (d ∷ ds) few = ap (λ t. cond t (Some (k + 1)) None) (sym (lt-ltb (k + 1) (length bs) (omega (arith, few))))

-- the longest of all blocks is that of one, or of those behind it
pub more_longest : (flags : IsaFlags) (state : Emission) (bs : List Block) (k : ℕ) (v : Block) (before behind : ℕ) → k < length bs → v ≡ get_or bs k v → behind ≡ before + tree_size (folded_before (next_block k (map (tree_of flags state) (drop (k + 1) bs))) (tree_of flags state v)) →
    before + tree_size (tree_of flags state v) < limit → peak_from (k + 1) behind (map (tree_of flags state) (drop (k + 1) bs)) < limit → peak_from k before (map (tree_of flags state) (drop k bs)) < limit
more_longest flags state bs k v before behind lt at put full below =
    let t = tree_of flags state v in
    let rest = map (tree_of flags state) (drop (k + 1) bs) in
    let later = peak_from (k + 1) (before + tree_size (folded_before (next_block k rest) t)) rest in
    let below' : later < limit = subst (λ n. peak_from (k + 1) n rest < limit) put below in
    subst (λ ts. peak_from k before ts < limit) (sym (split_at flags state bs k v lt at)) (both_below (before + tree_size t) later limit full below')
