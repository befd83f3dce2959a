-- The search among blocks, one after another.
use Rattle.std.proofs.Common.{◌≡◌, ℕ, ◌+◌, ◌<◌, ◌≤◌, List, [], Option, Some, None, length, take, get_or, refl, sym, ap, ◌∙◌, subst, arith, Vec, Global}
use Rattle.std.proofs.lemmas.List.{get_or-map, length-map}
use Rattle.s390x_base.specs.declared.error.EmitError.{EmitError}
use Rattle.s390x_buffer.specs.State.{label_limit}
use Rattle.s390x_inst.specs.Emission.{Emission}
use Rattle.s390x_inst.specs.declared.function.AllocatedFunction.{AllocatedFunction}
use Rattle.s390x_inst.specs.declared.function.Block.{Block}
use Rattle.s390x_inst.specs.declared.inst.Inst.{Inst}
use Rattle.s390x_inst.specs.declared.state.IsaFlags.{IsaFlags}
use Rattle.s390x_typed_steps.specs.Causes.{Declared, block_cause, blocks_cause, first_emit_cause, fresh_labels}
use Rattle.s390x_typed_steps.specs.Tree.{empty}
use Rattle.s390x_emit_int.specs.Function.{tree_of, trees_of}
use Rattle.s390x_emit_int.specs.Members.{block_members_of}
use Rattle.s390x_refusal.specs.Members.{IsRefusedAmong, members_cause}
use Rattle.s390x_refusal.specs.Refusal.{IsBlockReached, block_insts, block_point, declared_by, emission_cause, ending_cause, first_labels, labels_behind, opening_cause}
use Rattle.s390x_refusal.specs.Search.{IsPathAmong, IsPositionIn}
use Rattle.s390x_refusal.specs.declared.position.Position.TheVariants.{Instruction, BlockEnd}
use Rattle.s390x_refusal.proofs.Counting.{begins_at_zero, block_parts, blocks_first, labels_more_block, of_first_block, one_more_block}
use Rattle.s390x_refusal.proofs.Nesting.{same_error}

-- so many blocks have no cause, and so many labels are in use behind them
pub record BlocksWalked (flags : IsaFlags) (e : Emission) (f : AllocatedFunction) (k labels : ℕ) : Type 0 where
  pub labels_are : labels ≡ labels_behind (first_labels f) (take k (trees_of flags e f))
  pub few : labels ≤ label_limit
  pub none : blocks_cause flags (declared_by flags e f) (first_labels f) (take k (trees_of flags e f)) ≡ None

-- a block's tree and its instructions, by its number
tree_at : (flags : IsaFlags) (e : Emission) (f : AllocatedFunction) (k : ℕ) (v : Block) → k < length f.blocks.items → v ≡ get_or f.blocks.items k v → get_or (trees_of flags e f) k empty ≡ tree_of flags e v
tree_at flags e f k v lt at = get_or-map (tree_of flags e) f.blocks.items k v empty lt ∙ ap (tree_of flags e) (sym at)

insts_at : (f : AllocatedFunction) (k : ℕ) (v : Block) → k < length f.blocks.items → v ≡ get_or f.blocks.items k v → v.insts.items ≡ block_insts f k
insts_at f k v lt at = sym (get_or-map (λ (b : Block). b.insts.items) f.blocks.items k v [] lt ∙ ap (λ (b : Block). b.insts.items) (sym at))

among_trees : (flags : IsaFlags) (e : Emission) (f : AllocatedFunction) (k : ℕ) → k < length f.blocks.items → k < length (trees_of flags e f)
among_trees flags e f k lt = omega (arith, lt, length-map f.blocks.items (tree_of flags e))

pub blocks_on : (flags : IsaFlags) (e : Emission) (f : AllocatedFunction) (k labels behind : ℕ) (v : Block) (D : Declared) → k < length f.blocks.items → v ≡ get_or f.blocks.items k v → D ≡ declared_by flags e f → BlocksWalked flags e f k labels
    → block_cause flags D labels (tree_of flags e v) ≡ None → behind ≡ labels + fresh_labels (tree_of flags e v) → behind ≤ label_limit → BlocksWalked flags e f (k + 1) behind
blocks_on flags e f k labels behind v D lt at declared w none more few =
    let ts = trees_of flags e f in
    let t = tree_at flags e f k v lt at in
    let inside = among_trees flags e f k lt in
    let own : fresh_labels (get_or ts k empty) ≡ fresh_labels (tree_of flags e v) = ap fresh_labels t in
    record {
      labels_are = omega (arith, more, w.labels_are, labels_more_block (first_labels f) ts k inside, own);
      few = few;
      none =
          one_more_block flags (declared_by flags e f) (first_labels f) ts k inside w.none
          ∙ ap (block_cause flags (declared_by flags e f) (labels_behind (first_labels f) (take k ts))) t
          ∙ ap (λ n. block_cause flags (declared_by flags e f) n (tree_of flags e v)) (sym w.labels_are)
          ∙ ap (λ E. block_cause flags E labels (tree_of flags e v)) (sym declared)
          ∙ none;
    }

-- the cause of block number k is the function's, where none before it has one
reached : (flags : IsaFlags) (e : Emission) (f : AllocatedFunction) (k labels : ℕ) → opening_cause e f ≡ None → k < length f.blocks.items → BlocksWalked flags e f k labels → IsBlockReached flags e f k
reached flags e f k labels none lt w = record { opening = none; there = lt; before = w.none }

-- what is known of a block by its parts, of it by its number
pub record Blamed (flags : IsaFlags) (e : Emission) (f : AllocatedFunction) (k : ℕ) (error : EmitError) : Type 0 where
  pub place : IsBlockReached flags e f k
  pub function : emission_cause flags e f ≡ Some error
  pub parts : first_emit_cause (members_cause flags (declared_by flags e f) (block_point flags e f k) (block_insts f k)) (ending_cause flags (block_point flags e f k) (block_insts f k)) ≡ Some error

pub blamed : (flags : IsaFlags) (e : Emission) (f : AllocatedFunction) (k labels : ℕ) (v : Block) (D : Declared) (error : EmitError) → opening_cause e f ≡ None → k < length f.blocks.items → v ≡ get_or f.blocks.items k v → D ≡ declared_by flags e f → BlocksWalked flags e f k labels
    → block_cause flags D labels (tree_of flags e v) ≡ Some error → Blamed flags e f k error
blamed flags e f k labels v D error opening lt at declared w some =
    let ts = trees_of flags e f in
    let E = declared_by flags e f in
    let n = labels_behind (first_labels f) (take k ts) in
    let p = block_point flags e f k in
    let own : block_cause flags E n (tree_of flags e v) ≡ Some error = ap (λ m. block_cause flags E m (tree_of flags e v)) (sym w.labels_are) ∙ ap (λ F. block_cause flags F labels (tree_of flags e v)) (sym declared) ∙ some in
    record {
      place = reached flags e f k labels opening lt w;
      function = blocks_first flags e f error opening (of_first_block flags E (first_labels f) ts k error (among_trees flags e f k lt) w.none (ap (block_cause flags E n) (tree_at flags e f k v lt at) ∙ own));
      parts = sym (block_parts flags E p (block_insts f k) (begins_at_zero e f opening) refl) ∙ ap (λ is. block_cause flags E n (block_members_of flags e is)) (sym (insts_at f k v lt at)) ∙ own;
    }

-- the path in a block by its parts is that in it by its number
path_at : (flags : IsaFlags) (e : Emission) (f : AllocatedFunction) (k labels : ℕ) (v : Block) (D : Declared) (is : List Inst) (path : Option (Vec ℕ Global)) → k < length f.blocks.items → v ≡ get_or f.blocks.items k v → D ≡ declared_by flags e f → BlocksWalked flags e f k labels → is ≡ v.insts.items
    → IsPathAmong flags D (record { state = e; labels = labels; depth = 0 }) is path → IsPathAmong flags (declared_by flags e f) (block_point flags e f k) (block_insts f k) path
path_at flags e f k labels v D is path lt at declared w same h =
    subst (λ E. IsPathAmong flags E (block_point flags e f k) (block_insts f k) path) declared
    (subst (λ n. IsPathAmong flags D (record { state = e; labels = n; depth = 0 }) (block_insts f k) path) w.labels_are
    (subst (λ js. IsPathAmong flags D (record { state = e; labels = labels; depth = 0 }) js path) (same ∙ insts_at f k v lt at) h))

first_some : (a b : Option EmitError) (x y : EmitError) → a ≡ Some x → first_emit_cause a b ≡ Some y → x ≡ y
first_some a b x y is h = same_error (first_emit_cause a b) x y (ap (λ o. first_emit_cause o b) is) h

-- the cause stands at a member
pub at_member : (flags : IsaFlags) (e : Emission) (f : AllocatedFunction) (k labels : ℕ) (v : Block) (D : Declared) (error : EmitError) (is : List Inst) (path : Vec ℕ Global) → opening_cause e f ≡ None → k < length f.blocks.items → v ≡ get_or f.blocks.items k v → D ≡ declared_by flags e f → BlocksWalked flags e f k labels
    → block_cause flags D labels (tree_of flags e v) ≡ Some error → is ≡ v.insts.items → IsPathAmong flags D (record { state = e; labels = labels; depth = 0 }) is (Some path) → IsPositionIn flags e f (Instruction k path)
at_member flags e f k labels v D error is path opening lt at declared w some same h other cause =
    let b = blamed flags e f k labels v D error opening lt at declared w some in
    let found = path_at flags e f k labels v D is (Some path) lt at declared w same h in
    let own : found.0 ≡ error = first_some _ _ found.0 error found.1 b.parts in
    let all : error ≡ other = same_error _ error other b.function cause in
    (b.place, subst (λ x. IsRefusedAmong flags (declared_by flags e f) (block_point flags e f k) (block_insts f k) x path.items) (own ∙ all) found.2)

-- the cause stands at the block's end
pub at_end : (flags : IsaFlags) (e : Emission) (f : AllocatedFunction) (k labels : ℕ) (v : Block) (D : Declared) (error : EmitError) (is : List Inst) → opening_cause e f ≡ None → k < length f.blocks.items → v ≡ get_or f.blocks.items k v → D ≡ declared_by flags e f → BlocksWalked flags e f k labels
    → block_cause flags D labels (tree_of flags e v) ≡ Some error → is ≡ v.insts.items → IsPathAmong flags D (record { state = e; labels = labels; depth = 0 }) is None → IsPositionIn flags e f (BlockEnd k)
at_end flags e f k labels v D error is opening lt at declared w some same h other cause =
    let b = blamed flags e f k labels v D error opening lt at declared w some in
    let none = path_at flags e f k labels v D is None lt at declared w same h in
    let all : error ≡ other = same_error _ error other b.function cause in
    let ending = ending_cause flags (block_point flags e f k) (block_insts f k) in
    (b.place, none, subst (λ x. ending ≡ Some x) all (ap (λ o. first_emit_cause o ending) (sym none) ∙ b.parts))
