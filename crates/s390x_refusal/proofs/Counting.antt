-- From block to block.
use Rattle.std.proofs.Common.{◌≡◌, ℕ, ◌+◌, ◌<◌, List, [], ◌∷◌, ◌++◌, true, ◌&&◌, nat_eq, Option, Some, None, length, take, drop, get_or, refl, sym, ap, ◌∙◌, arith}
use Rattle.std.proofs.lemmas.List.{length-map, take-append-drop, take_more}
use Rattle.s390x_base.specs.declared.error.EmitError.{EmitError}
use Rattle.s390x_base.specs.declared.error.EmitError.TheVariants.{BadStackState}
use Rattle.s390x_buffer.specs.State.{BufferState, fresh_buffer, new_cause}
use Rattle.s390x_inst.specs.Emission.{Emission}
use Rattle.s390x_inst.specs.declared.function.AllocatedFunction.{AllocatedFunction}
use Rattle.s390x_inst.specs.declared.inst.Inst.{Inst}
use Rattle.s390x_inst.specs.declared.state.IsaFlags.{IsaFlags}
use Rattle.s390x_typed_steps.specs.Causes.{Declared, block_cause, blocks_cause, declared_in, first_emit_cause, fresh_labels, nominal_behind, tree_cause, unless}
use Rattle.s390x_typed_steps.specs.Tree.{Tree, empty}
use Rattle.s390x_typed_steps.proofs.Causes.{first_left, first_none, unless_true}
use Rattle.s390x_emit_int.specs.Function.{code_length_cause, constants_of, start_cause, tree_of, trees_of}
use Rattle.s390x_emit_int.specs.Members.{block_members_of}
use Rattle.s390x_refusal.specs.Members.{Point, members_at, members_cause}
use Rattle.s390x_refusal.specs.Refusal.{declared_by, emission_cause, ending_cause, first_labels, labels_behind, opening_cause}

first_assoc : (a b c : Option EmitError) → first_emit_cause a (first_emit_cause b c) ≡ first_emit_cause (first_emit_cause a b) c
first_assoc None b c = refl
first_assoc (Some e) b c = refl

-- the causes of blocks come before those behind them
blocks_append : (flags : IsaFlags) (D : Declared) (n : ℕ) (ts us : List Tree) → blocks_cause flags D n (ts ++ us) ≡ first_emit_cause (blocks_cause flags D n ts) (blocks_cause flags D (labels_behind n ts) us)
blocks_append flags D n [] us = refl
blocks_append flags D n (t ∷ ts) us =
    ap (first_emit_cause (block_cause flags D n t)) (blocks_append flags D (n + fresh_labels t) ts us)
    ∙ first_assoc (block_cause flags D n t) (blocks_cause flags D (n + fresh_labels t) ts) (blocks_cause flags D (labels_behind (n + fresh_labels t) ts) us)

labels_append : (n : ℕ) (ts us : List Tree) → labels_behind n (ts ++ us) ≡ labels_behind (labels_behind n ts) us
labels_append n [] us = refl
labels_append n (t ∷ ts) us = labels_append (n + fresh_labels t) ts us

-- the blocks before number k, and it
pub one_more_block : (flags : IsaFlags) (D : Declared) (n : ℕ) (ts : List Tree) (k : ℕ) → k < length ts → blocks_cause flags D n (take k ts) ≡ None → blocks_cause flags D n (take (k + 1) ts) ≡ block_cause flags D (labels_behind n (take k ts)) (get_or ts k empty)
one_more_block flags D n ts k lt none =
    let t = get_or ts k empty in
    let m = labels_behind n (take k ts) in
    ap (blocks_cause flags D n) (take_more ts k empty lt)
    ∙ blocks_append flags D n (take k ts) (t ∷ [])
    ∙ ap (λ o. first_emit_cause o (blocks_cause flags D m (t ∷ []))) none
    ∙ first_none (block_cause flags D m t)

pub labels_more_block : (n : ℕ) (ts : List Tree) (k : ℕ) → k < length ts → labels_behind n (take (k + 1) ts) ≡ labels_behind n (take k ts) + fresh_labels (get_or ts k empty)
labels_more_block n ts k lt = ap (labels_behind n) (take_more ts k empty lt) ∙ labels_append n (take k ts) (get_or ts k empty ∷ [])

-- a cause of block number k, none before it having one, is the first of all
pub of_first_block : (flags : IsaFlags) (D : Declared) (n : ℕ) (ts : List Tree) (k : ℕ) (error : EmitError) → k < length ts → blocks_cause flags D n (take k ts) ≡ None → block_cause flags D (labels_behind n (take k ts)) (get_or ts k empty) ≡ Some error → blocks_cause flags D n ts ≡ Some error
of_first_block flags D n ts k error lt none some =
    let rest = blocks_cause flags D (labels_behind n (take (k + 1) ts)) (drop (k + 1) ts) in
    ap (blocks_cause flags D n) (sym (take-append-drop (k + 1) ts))
    ∙ blocks_append flags D n (take (k + 1) ts) (drop (k + 1) ts)
    ∙ ap (λ o. first_emit_cause o rest) (one_more_block flags D n ts k lt none ∙ some)

-- ---- the whole function

count_same : (flags : IsaFlags) (e : Emission) (f : AllocatedFunction) → length (trees_of flags e f) ≡ length f.blocks.items
count_same flags e f = length-map f.blocks.items (tree_of flags e)

-- the causes before the blocks, of the blocks, and of the length
pub emission_parts : (flags : IsaFlags) (e : Emission) (f : AllocatedFunction) → emission_cause flags e f ≡ first_emit_cause (opening_cause e f) (first_emit_cause (blocks_cause flags (declared_by flags e f) (first_labels f) (trees_of flags e f)) (code_length_cause (trees_of flags e f) (constants_of f)))
emission_parts flags e f =
    let ts = trees_of flags e f in
    let cs = constants_of f in
    let D = declared_by flags e f in
    let last = code_length_cause ts cs in
    ap (λ m. first_emit_cause (start_cause e) (first_emit_cause (new_cause m cs) (first_emit_cause (blocks_cause flags D (m + length cs) ts) last))) (count_same flags e f)
    ∙ first_assoc (start_cause e) (new_cause (length f.blocks.items) cs) (first_emit_cause (blocks_cause flags D (first_labels f) ts) last)

-- behind an opening without a cause, a cause of the blocks is the first one
pub blocks_first : (flags : IsaFlags) (e : Emission) (f : AllocatedFunction) (error : EmitError) → opening_cause e f ≡ None → blocks_cause flags (declared_by flags e f) (first_labels f) (trees_of flags e f) ≡ Some error → emission_cause flags e f ≡ Some error
blocks_first flags e f error none some =
    let last = code_length_cause (trees_of flags e f) (constants_of f) in
    let blocks = blocks_cause flags (declared_by flags e f) (first_labels f) (trees_of flags e f) in
    emission_parts flags e f ∙ ap (λ o. first_emit_cause o (first_emit_cause blocks last)) none ∙ ap (λ o. first_emit_cause o last) some

-- what a buffer for the function declares
pub declared_fresh : (flags : IsaFlags) (e : Emission) (f : AllocatedFunction) (s : BufferState) → s ≡ fresh_buffer (length f.blocks.items) (constants_of f) → declared_in s ≡ declared_by flags e f
declared_fresh flags e f s is =
    let cs = constants_of f in
    ap declared_in is ∙ ap (λ m. declared_in (fresh_buffer m cs)) (sym (count_same flags e f))

-- without a cause of the opening the nominal size is 0
pub begins_at_zero : (e : Emission) (f : AllocatedFunction) → opening_cause e f ≡ None → e.nominal ≡ 0
begins_at_zero e f none = nominal_zero e.nominal e.outgoing (unless_true _ _ (first_left (start_cause e) _ none))
  where
    nominal_zero : (m k : ℕ) → (nat_eq m 0 && nat_eq k 0) ≡ true → m ≡ 0
    nominal_zero m k h = grind (arith, h)

-- ---- one block

-- a block's causes: those of its members, and that of its end
pub block_parts : (flags : IsaFlags) (D : Declared) (p : Point) (is : List Inst) → p.state.nominal ≡ 0 → p.depth ≡ 0 → block_cause flags D p.labels (block_members_of flags p.state is) ≡ first_emit_cause (members_cause flags D p is) (ending_cause flags p is)
block_parts flags D p is unallocated outside =
    let t = block_members_of flags p.state is in
    ap (λ m. first_emit_cause (tree_cause flags D p.labels m 0 t) (unless (nat_eq (nominal_behind m t) 0) BadStackState)) (sym unallocated)
    ∙ ap (λ d. first_emit_cause (tree_cause flags D p.labels p.state.nominal d (members_at flags d p.state is)) (ending_cause flags p is)) (sym outside)
