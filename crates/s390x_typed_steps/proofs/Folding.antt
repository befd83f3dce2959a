-- Folding changes neither what refuses a function nor the numbers of its steps and labels, and makes no block longer.
use Rattle.std.proofs.Common.{◌≡◌, ℕ, zero, suc, ◌+◌, ◌-◌, ◌≤◌, List, [], ◌∷◌, length, Option, Some, None, Bool, true, false, cond, nat_eq, refl, sym, ap, ap₂, ◌∙◌, arith}
use Rattle.std.proofs.Math.Nat.{max-le}
use Rattle.s390x_base.specs.declared.error.EmitError.{EmitError}
use Rattle.s390x_base.specs.declared.error.EmitError.TheVariants.{BadStackState}
use Rattle.s390x_base.specs.declared.ir.MachLabel.{MachLabel}
use Rattle.s390x_inst.specs.declared.inst.Inst.{Inst}
use Rattle.s390x_inst.specs.declared.inst.Inst.TheVariants.{Jump, CondBr}
use Rattle.s390x_inst.specs.declared.state.IsaFlags.{IsaFlags}
use Rattle.s390x_typed_steps.specs.Tree.{Remainder, NothingLeft, BranchLeft, StepBody, Whole, Folded, Tree, empty, leaf, loop_node}
use Rattle.s390x_typed_steps.specs.Steps.{step_count, first_step}
use Rattle.s390x_typed_steps.specs.Causes.{Declared, first_emit_cause, unless, target_label_cause, instruction_cause, instruction_fresh_labels, leaf_cause, body_cause, body_fresh_labels, body_nominal_after, fresh_labels, nominal_behind, nesting_cause, numbers_cause, tree_cause, block_cause, blocks_cause}
use Rattle.s390x_typed_steps.specs.Ranges.{IsConditionMask, InRange, BodyInRange, AllInRange, BlocksInRange}
use Rattle.s390x_typed_steps.specs.Folding.{Always, Conditional, remainder, branches_of, body_with_remainder, fold, folded_members, folded_before, next_block, folded_from, peak_from}
use Rattle.s390x_typed_steps.proofs.Causes.{first_none, first_left, first_right}
use Rattle.s390x_typed_steps.specs.Parts.{parts_size, remainder_parts}
use Rattle.s390x_typed_steps.specs.Sizes.{body_size, tree_size, blocks_size}

shortened_labels : (o : Option Remainder) (i : Inst) → instruction_fresh_labels i ≡ 0 → body_fresh_labels (body_with_remainder o i) ≡ instruction_fresh_labels i
shortened_labels None i none = refl
shortened_labels (Some r) i none = sym none

fold_labels : (next : ℕ) (b : StepBody) → body_fresh_labels (fold next b) ≡ body_fresh_labels b
fold_labels next (Whole (Jump dest)) = shortened_labels (remainder next (Some (Always dest.0))) (Jump dest) refl
fold_labels next (Whole (CondBr taken not_taken mask)) = shortened_labels (remainder next (Some (Conditional mask taken.0 not_taken.0))) (CondBr taken not_taken mask) refl
fold_labels next b = refl

-- a later cause that stands only behind an earlier one
first_same : (a b : Option EmitError) → (a ≡ None → b ≡ None) → first_emit_cause a b ≡ a
first_same None b h = h refl
first_same (Some e) b h = refl

jump_cause : (flags : IsaFlags) (D : Declared) (n nominal depth : ℕ) (dest : MachLabel) (t : Bool) → body_cause flags D n nominal depth (body_with_remainder (cond t (Some NothingLeft) None) (Jump dest)) ≡ leaf_cause flags D n nominal depth (Jump dest)
jump_cause flags D n nominal depth dest true = first_none (leaf_cause flags D n nominal depth (Jump dest))
jump_cause flags D n nominal depth dest false = refl

-- without a cause both of its labels name blocks
labels_of : (flags : IsaFlags) (D : Declared) (n nominal depth : ℕ) (taken not_taken : MachLabel) (mask : ℕ) → leaf_cause flags D n nominal depth (CondBr taken not_taken mask) ≡ None → first_emit_cause (target_label_cause D.blocks taken) (target_label_cause D.blocks not_taken) ≡ None
labels_of flags D n nominal depth taken not_taken mask none = first_left (instruction_cause flags D nominal depth (CondBr taken not_taken mask)) (numbers_cause n 0) none

choice_cause : (flags : IsaFlags) (D : Declared) (n nominal depth : ℕ) (taken not_taken : MachLabel) (mask : ℕ) (u t : Bool) →
    body_cause flags D n nominal depth (body_with_remainder (cond u (cond t (Some NothingLeft) (Some (BranchLeft mask taken.0))) (cond t (Some (BranchLeft (15 - mask) not_taken.0)) None)) (CondBr taken not_taken mask)) ≡ leaf_cause flags D n nominal depth (CondBr taken not_taken mask)
choice_cause flags D n nominal depth taken not_taken mask true true = first_none (leaf_cause flags D n nominal depth (CondBr taken not_taken mask))
choice_cause flags D n nominal depth taken not_taken mask true false =
    first_same (leaf_cause flags D n nominal depth (CondBr taken not_taken mask)) (target_label_cause D.blocks taken) (λ none.
    first_left (target_label_cause D.blocks taken) (target_label_cause D.blocks not_taken) (labels_of flags D n nominal depth taken not_taken mask none))
choice_cause flags D n nominal depth taken not_taken mask false true =
    first_same (leaf_cause flags D n nominal depth (CondBr taken not_taken mask)) (target_label_cause D.blocks not_taken) (λ none.
    first_right (target_label_cause D.blocks taken) (target_label_cause D.blocks not_taken) (labels_of flags D n nominal depth taken not_taken mask none))
choice_cause flags D n nominal depth taken not_taken mask false false = refl

fold_cause : (flags : IsaFlags) (D : Declared) (n nominal depth next : ℕ) (b : StepBody) → body_cause flags D n nominal depth (fold next b) ≡ body_cause flags D n nominal depth b
fold_cause flags D n nominal depth next (Whole (Jump dest)) = jump_cause flags D n nominal depth dest (nat_eq dest.0 next)
fold_cause flags D n nominal depth next (Whole (CondBr taken not_taken mask)) = choice_cause flags D n nominal depth taken not_taken mask (nat_eq not_taken.0 next) (nat_eq taken.0 next)
fold_cause flags D n nominal depth next b = refl

shortened_nominal : (nominal : ℕ) (o : Option Remainder) (i : Inst) → body_nominal_after nominal (body_with_remainder o i) ≡ body_nominal_after nominal (Whole i)
shortened_nominal nominal None i = refl
shortened_nominal nominal (Some r) i = refl

fold_nominal : (nominal next : ℕ) (b : StepBody) → body_nominal_after nominal (fold next b) ≡ body_nominal_after nominal b
fold_nominal nominal next (Whole i) = shortened_nominal nominal (remainder next (branches_of i)) i
fold_nominal nominal next b = refl

-- the branches of these alone are folded
abbrev pub IsFoldable : Inst → Type 0
IsFoldable (Jump dest) = Unit {0}
IsFoldable (CondBr taken not_taken mask) = Unit {0}
IsFoldable _ = ⊥

-- the mask and the operand of a body, also of one that is folded
abbrev pub BodyMasked : StepBody → Type 0
BodyMasked (Folded r i) = InRange i × IsFoldable i
BodyMasked b = BodyInRange b

-- those of a tree, and each loop's mask
abbrev pub AllMasked : Tree → Type 0
AllMasked empty = Unit {0}
AllMasked (leaf b rest) = BodyMasked b × AllMasked rest
AllMasked (loop_node mask members rest) = IsConditionMask mask × AllMasked members × AllMasked rest

-- those of blocks
abbrev pub BlocksMasked : List Tree → Type 0
BlocksMasked [] = Unit {0}
BlocksMasked (t ∷ ts) = AllMasked t × BlocksMasked ts

body_masked : (b : StepBody) → BodyInRange b → BodyMasked b
body_masked (Folded r i) h = absurd h
body_masked (Whole i) h = h
body_masked b h = h

tree_masked : (t : Tree) → AllInRange t → AllMasked t
tree_masked empty h = tt
tree_masked (leaf b rest) h = (body_masked b h.0, tree_masked rest h.1)
tree_masked (loop_node mask members rest) h = (h.0, tree_masked members h.1, tree_masked rest h.2)

pub blocks_masked : (ts : List Tree) → BlocksInRange ts → BlocksMasked ts
blocks_masked [] h = tt
blocks_masked (t ∷ ts) h = (tree_masked t h.0, blocks_masked ts h.1)

shortened_masked : (o : Option Remainder) (i : Inst) → InRange i → IsFoldable i → BodyMasked (body_with_remainder o i)
shortened_masked None i h able = h
shortened_masked (Some r) i h able = (h, able)

fold_masked : (next : ℕ) (b : StepBody) → BodyMasked b → BodyMasked (fold next b)
fold_masked next (Whole (Jump dest)) h = shortened_masked (remainder next (Some (Always dest.0))) (Jump dest) h tt
fold_masked next (Whole (CondBr taken not_taken mask)) h = shortened_masked (remainder next (Some (Conditional mask taken.0 not_taken.0))) (CondBr taken not_taken mask) h tt
fold_masked next b h = h

left_small : (r : Remainder) → parts_size (remainder_parts r) ≤ 6
left_small NothingLeft = omega arith
left_small (BranchLeft mask b) = omega arith

shortened_size : (o : Option Remainder) (i : Inst) → 6 ≤ body_size (Whole i) → body_size (body_with_remainder o i) ≤ body_size (Whole i)
shortened_size None i h = omega arith
shortened_size (Some r) i h = let small = left_small r in omega (arith, small, h)

same_size : (n : ℕ) → n ≤ n
same_size n = omega arith

fold_size : (next : ℕ) (b : StepBody) → body_size (fold next b) ≤ body_size b
fold_size next (Whole (Jump dest)) = shortened_size (remainder next (Some (Always dest.0))) (Jump dest) (omega arith)
fold_size next (Whole (CondBr taken not_taken mask)) = shortened_size (remainder next (Some (Conditional mask taken.0 not_taken.0))) (CondBr taken not_taken mask) (omega arith)
fold_size next b = same_size (body_size b)

-- ---- the members of a block

pub folded_size : (next : ℕ) (t : Tree) → tree_size (folded_members next t) ≤ tree_size t
folded_size next empty = omega arith
folded_size next (leaf b empty) = let few = fold_size next b in omega (arith, few)
folded_size next (leaf b (leaf c rest)) = let few = folded_size next (leaf c rest) in omega (arith, few)
folded_size next (leaf b (loop_node mask members rest)) = let few = folded_size next (loop_node mask members rest) in omega (arith, few)
folded_size next (loop_node mask members rest) = let few = folded_size next rest in omega (arith, few)

pub folded_labels : (next : ℕ) (t : Tree) → fresh_labels (folded_members next t) ≡ fresh_labels t
folded_labels next empty = refl
folded_labels next (leaf b empty) = ap (λ n. n + 0) (fold_labels next b)
folded_labels next (leaf b (leaf c rest)) = ap (λ n. body_fresh_labels b + n) (folded_labels next (leaf c rest))
folded_labels next (leaf b (loop_node mask members rest)) = ap (λ n. body_fresh_labels b + n) (folded_labels next (loop_node mask members rest))
folded_labels next (loop_node mask members rest) = ap (λ n. 2 + fresh_labels members + n) (folded_labels next rest)

pub folded_count : (next : ℕ) (t : Tree) → step_count (folded_members next t) ≡ step_count t
folded_count next empty = refl
folded_count next (leaf b empty) = refl
folded_count next (leaf b (leaf c rest)) = ap (λ n. 1 + n) (folded_count next (leaf c rest))
folded_count next (leaf b (loop_node mask members rest)) = ap (λ n. 1 + n) (folded_count next (loop_node mask members rest))
folded_count next (loop_node mask members rest) = ap (λ n. 2 + step_count members + n) (folded_count next rest)

pub folded_nominal : (nominal next : ℕ) (t : Tree) → nominal_behind nominal (folded_members next t) ≡ nominal_behind nominal t
folded_nominal nominal next empty = refl
folded_nominal nominal next (leaf b empty) = fold_nominal nominal next b
folded_nominal nominal next (leaf b (leaf c rest)) = folded_nominal (body_nominal_after nominal b) next (leaf c rest)
folded_nominal nominal next (leaf b (loop_node mask members rest)) = folded_nominal (body_nominal_after nominal b) next (loop_node mask members rest)
folded_nominal nominal next (loop_node mask members rest) = folded_nominal nominal next rest

pub folded_cause : (flags : IsaFlags) (D : Declared) (n nominal depth next : ℕ) (t : Tree) → tree_cause flags D n nominal depth (folded_members next t) ≡ tree_cause flags D n nominal depth t
folded_cause flags D n nominal depth next empty = refl
folded_cause flags D n nominal depth next (leaf b empty) = ap (λ o. first_emit_cause o None) (fold_cause flags D n nominal depth next b)
folded_cause flags D n nominal depth next (leaf b (leaf c rest)) =
    ap (λ o. first_emit_cause (body_cause flags D n nominal depth b) o) (folded_cause flags D (n + body_fresh_labels b) (body_nominal_after nominal b) depth next (leaf c rest))
folded_cause flags D n nominal depth next (leaf b (loop_node mask members rest)) =
    ap (λ o. first_emit_cause (body_cause flags D n nominal depth b) o) (folded_cause flags D (n + body_fresh_labels b) (body_nominal_after nominal b) depth next (loop_node mask members rest))
folded_cause flags D n nominal depth next (loop_node mask members rest) =
    ap (λ o. first_emit_cause (first_emit_cause (first_emit_cause (nesting_cause depth) (numbers_cause n 2)) (tree_cause flags D (n + 2) nominal (depth + 1) members)) o)
    (folded_cause flags D (n + 2 + fresh_labels members) nominal depth next rest)

folded_masked : (next : ℕ) (t : Tree) → AllMasked t → AllMasked (folded_members next t)
folded_masked next empty h = h
folded_masked next (leaf b empty) h = (fold_masked next b h.0, h.1)
folded_masked next (leaf b (leaf c rest)) h = (h.0, folded_masked next (leaf c rest) h.1)
folded_masked next (leaf b (loop_node mask members rest)) h = (h.0, folded_masked next (loop_node mask members rest) h.1)
folded_masked next (loop_node mask members rest) h = (h.0, h.1, folded_masked next rest h.2)

-- ---- before the next block, if there is one

pub before_size : (next : Option ℕ) (t : Tree) → tree_size (folded_before next t) ≤ tree_size t
before_size None t = same_size (tree_size t)
before_size (Some next) t = folded_size next t

pub before_labels : (next : Option ℕ) (t : Tree) → fresh_labels (folded_before next t) ≡ fresh_labels t
before_labels None t = refl
before_labels (Some next) t = folded_labels next t

pub before_count : (next : Option ℕ) (t : Tree) → step_count (folded_before next t) ≡ step_count t
before_count None t = refl
before_count (Some next) t = folded_count next t

before_block_cause : (flags : IsaFlags) (D : Declared) (n : ℕ) (next : Option ℕ) (t : Tree) → block_cause flags D n (folded_before next t) ≡ block_cause flags D n t
before_block_cause flags D n None t = refl
before_block_cause flags D n (Some next) t =
    ap₂ (λ x m. first_emit_cause x (unless (nat_eq m 0) BadStackState)) (folded_cause flags D n 0 0 next t) (folded_nominal 0 next t)

before_masked : (next : Option ℕ) (t : Tree) → AllMasked t → AllMasked (folded_before next t)
before_masked None t h = h
before_masked (Some next) t h = folded_masked next t h

-- ---- the blocks

pub folded_blocks_cause : (flags : IsaFlags) (D : Declared) (n b : ℕ) (ts : List Tree) → blocks_cause flags D n (folded_from b ts) ≡ blocks_cause flags D n ts
folded_blocks_cause flags D n b [] = refl
folded_blocks_cause flags D n b (t ∷ ts) =
    let next = next_block b ts in
    ap₂ (λ x y. first_emit_cause x y) (before_block_cause flags D n next t)
    (ap (λ m. blocks_cause flags D (n + m) (folded_from (b + 1) ts)) (before_labels next t) ∙ folded_blocks_cause flags D (n + fresh_labels t) (b + 1) ts)

pub folded_first_step : (b : ℕ) (ts : List Tree) (k : ℕ) → first_step (folded_from b ts) k ≡ first_step ts k
folded_first_step b [] k = refl
folded_first_step b (t ∷ ts) zero = refl
folded_first_step b (t ∷ ts) (suc k) = ap₂ (λ x y. x + y) (before_count (next_block b ts) t) (folded_first_step (b + 1) ts k)

pub folded_length : (b : ℕ) (ts : List Tree) → length (folded_from b ts) ≡ length ts
folded_length b [] = refl
folded_length b (t ∷ ts) = ap suc (folded_length (b + 1) ts)

pub folded_blocks_masked : (b : ℕ) (ts : List Tree) → BlocksInRange ts → BlocksMasked (folded_from b ts)
folded_blocks_masked b [] h = tt
folded_blocks_masked b (t ∷ ts) h = (before_masked (next_block b ts) t (tree_masked t h.0), folded_blocks_masked (b + 1) ts h.1)

-- and no longer than the blocks are as they are given
pub peak_few : (b before : ℕ) (ts : List Tree) → peak_from b before ts ≤ before + blocks_size ts
peak_few b before [] = omega arith
peak_few b before (t ∷ ts) =
    let shorter = folded_before (next_block b ts) t in
    let later = peak_few (b + 1) (before + tree_size shorter) ts in
    let few = before_size (next_block b ts) t in
    max-le (omega arith) (omega (arith, later, few))

pub folded_blocks_size : (b : ℕ) (ts : List Tree) → blocks_size (folded_from b ts) ≤ blocks_size ts
folded_blocks_size b [] = omega arith
folded_blocks_size b (t ∷ ts) =
    let few = before_size (next_block b ts) t in
    let later = folded_blocks_size (b + 1) ts in
    omega (arith, few, later)
