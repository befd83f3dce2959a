-- A tree on a machine by its flags: what its members give stands before what those behind them give, with the same labels and nominal sizes.
use Rattle.std.proofs.Common.{◌≡◌, ℕ, ◌+◌, ◌<◌, Bool, true, false, ◌&&◌, List, Some, get_or, length, drop, refl, ap, ◌∙◌}
use Rattle.std.proofs.lemmas.Bool.{and_right}
use Rattle.s390x_base.specs.declared.error.EmitError.{EmitError}
use Rattle.s390x_inst.specs.Emission.{Emission}
use Rattle.s390x_inst.specs.declared.inst.Inst.{Inst}
use Rattle.s390x_inst.specs.declared.inst.Inst.TheVariants.{AllocateArgs, Call, JTSequence}
use Rattle.s390x_inst.specs.declared.state.IsaFlags.{IsaFlags}
use Rattle.s390x_typed_steps.specs.Baseline.{whole_or_loaded, body_for, tree_for}
use Rattle.s390x_typed_steps.specs.Calls.{safepoint}
use Rattle.s390x_typed_steps.specs.Causes.{Declared, first_emit_cause, body_fresh_labels, body_nominal_after, fresh_labels, nominal_behind, tree_cause}
use Rattle.s390x_typed_steps.specs.Memory.{memory, accesses_relative}
use Rattle.s390x_typed_steps.specs.Stack.{nominal_after, state_after}
use Rattle.s390x_typed_steps.specs.Tree.{StepBody, Tree, Whole, Loaded, Folded, CallStep, NoLoad, TailOpening, TailJump, empty, leaf, loop_node, prepend, tree, block_tree}
use Rattle.s390x_typed_steps.proofs.Causes.{joined_cause}
use Rattle.s390x_typed_steps.proofs.Trees.{behind, block_behind, joined, prepend_joined, prepend_nominal}

pub for_joined : (flags : IsaFlags) (t u : Tree) → tree_for flags (joined t u) ≡ joined (tree_for flags t) (tree_for flags u)
for_joined flags empty u = refl
for_joined flags (leaf b t) u = ap (leaf (body_for flags b)) (for_joined flags t u)
for_joined flags (loop_node mask members t) u = ap (loop_node mask (tree_for flags members)) (for_joined flags t u)

-- what an instruction becomes stands before the rest
pub for_prepend : (flags : IsaFlags) (e : Emission) (i : Inst) (rest : Tree) → tree_for flags (prepend e i rest) ≡ joined (tree_for flags (prepend e i empty)) (tree_for flags rest)
for_prepend flags e i rest = ap (tree_for flags) (prepend_joined e i rest) ∙ for_joined flags (prepend e i empty) rest

-- an instruction that draws a label or changes the nominal size accesses nothing
body_labels : (flags : IsaFlags) (b : StepBody) → body_fresh_labels (body_for flags b) ≡ body_fresh_labels b
body_labels flags (Whole (JTSequence ridx other mask targets)) = refl
body_labels flags (Whole i) = go (accesses_relative (memory i) && flags.no_relative_memory)
  where
    go : (t : Bool) → body_fresh_labels (whole_or_loaded t i) ≡ 0
    go false = refl
    go true = refl
body_labels flags (Loaded i) = refl
body_labels flags (Folded r i) = refl
body_labels flags (CallStep c) = refl
body_labels flags NoLoad = refl
body_labels flags (TailOpening target first_saved is_lost) = refl
body_labels flags (TailJump target) = refl

body_nominal : (flags : IsaFlags) (m : ℕ) (b : StepBody) → body_nominal_after m (body_for flags b) ≡ body_nominal_after m b
body_nominal flags m (Whole (AllocateArgs size)) = refl
body_nominal flags m (Whole (Call link info)) = refl
body_nominal flags m (Whole i) = go (accesses_relative (memory i) && flags.no_relative_memory)
  where
    go : (t : Bool) → body_nominal_after m (whole_or_loaded t i) ≡ m
    go false = refl
    go true = refl
body_nominal flags m (Loaded i) = refl
body_nominal flags m (Folded r i) = refl
body_nominal flags m (CallStep c) = refl
body_nominal flags m NoLoad = refl
body_nominal flags m (TailOpening target first_saved is_lost) = refl
body_nominal flags m (TailJump target) = refl

pub for_fresh_labels : (flags : IsaFlags) (t : Tree) → fresh_labels (tree_for flags t) ≡ fresh_labels t
for_fresh_labels flags empty = refl
for_fresh_labels flags (leaf b t) = ap (λ n. n + fresh_labels (tree_for flags t)) (body_labels flags b) ∙ ap (λ n. body_fresh_labels b + n) (for_fresh_labels flags t)
for_fresh_labels flags (loop_node mask members t) =
    ap (λ n. 2 + n + fresh_labels (tree_for flags t)) (for_fresh_labels flags members) ∙ ap (λ n. 2 + fresh_labels members + n) (for_fresh_labels flags t)

pub for_nominal : (flags : IsaFlags) (m : ℕ) (t : Tree) → nominal_behind m (tree_for flags t) ≡ nominal_behind m t
for_nominal flags m empty = refl
for_nominal flags m (leaf b t) = for_nominal flags (body_nominal_after m (body_for flags b)) t ∙ ap (λ n. nominal_behind n t) (body_nominal flags m b)
for_nominal flags m (loop_node mask members t) = for_nominal flags m t

-- a member's cause comes before those of the others
pub for_prepend_cause : (flags : IsaFlags) (e : Emission) (D : Declared) (n m depth : ℕ) (i : Inst) (rest : Tree) → tree_cause flags D n m depth (tree_for flags (prepend e i rest)) ≡ first_emit_cause (tree_cause flags D n m depth (tree_for flags (prepend e i empty))) (tree_cause flags D (n + fresh_labels (prepend e i empty)) (nominal_after m i) depth (tree_for flags rest))
for_prepend_cause flags e D n m depth i rest =
    let own = tree_for flags (prepend e i empty) in
    let later = tree_for flags rest in
    ap (tree_cause flags D n m depth) (for_prepend flags e i rest)
    ∙ joined_cause flags D n m depth own later
    ∙ ap (λ l. first_emit_cause (tree_cause flags D n m depth own) (tree_cause flags D (n + l) (nominal_behind m own) depth later)) (for_fresh_labels flags (prepend e i empty))
    ∙ ap (λ l. first_emit_cause (tree_cause flags D n m depth own) (tree_cause flags D (n + fresh_labels (prepend e i empty)) l depth later)) (for_nominal flags m (prepend e i empty) ∙ prepend_nominal e m i)

-- a cause at a member is the first one from there on
pub for_stops : (flags : IsaFlags) (state : Emission) (D : Declared) (depth n m : ℕ) (e : EmitError) (is : List Inst) (k : ℕ) (i : Inst) → k < length is → i ≡ get_or is k i → tree_cause flags D n m depth (tree_for flags (prepend state i empty)) ≡ Some e → tree_cause flags D n m depth (tree_for flags (tree state (drop k is))) ≡ Some e
for_stops flags state D depth n m e is k i lt at some =
    let rest = tree (state_after state i) (drop (k + 1) is) in
    ap (λ t. tree_cause flags D n m depth (tree_for flags t)) (behind state is k i lt at)
    ∙ for_prepend_cause flags state D n m depth i rest
    ∙ ap (λ o. first_emit_cause o (tree_cause flags D (n + fresh_labels (prepend state i empty)) (nominal_after m i) depth (tree_for flags rest))) some

-- the same in a block
pub for_block_stops : (flags : IsaFlags) (state : Emission) (D : Declared) (depth n m : ℕ) (e : EmitError) (is : List Inst) (k : ℕ) (i : Inst) → k < length is → i ≡ get_or is k i → tree_cause flags D n m depth (tree_for flags (prepend (safepoint state i) i empty)) ≡ Some e → tree_cause flags D n m depth (tree_for flags (block_tree state (drop k is))) ≡ Some e
for_block_stops flags state D depth n m e is k i lt at some =
    let rest = block_tree (state_after state i) (drop (k + 1) is) in
    let here = safepoint state i in
    ap (λ t. tree_cause flags D n m depth (tree_for flags t)) (block_behind state is k i lt at)
    ∙ for_prepend_cause flags here D n m depth i rest
    ∙ ap (λ o. first_emit_cause o (tree_cause flags D (n + fresh_labels (prepend here i empty)) (nominal_after m i) depth (tree_for flags rest))) some

-- where the machine has relative rows, each step stays
body_same : (flags : IsaFlags) (b : StepBody) → flags.no_relative_memory ≡ false → body_for flags b ≡ b
body_same flags (Whole i) e = ap (λ t. whole_or_loaded t i) (and_right (accesses_relative (memory i)) flags.no_relative_memory e)
body_same flags b e = refl

pub for_relative_machine : (flags : IsaFlags) (t : Tree) → flags.no_relative_memory ≡ false → tree_for flags t ≡ t
for_relative_machine flags empty e = refl
for_relative_machine flags (leaf b t) e = ap (λ c. leaf c (tree_for flags t)) (body_same flags b e) ∙ ap (leaf b) (for_relative_machine flags t e)
for_relative_machine flags (loop_node mask members t) e =
    ap (λ u. loop_node mask u (tree_for flags t)) (for_relative_machine flags members e) ∙ ap (loop_node mask members) (for_relative_machine flags t e)
