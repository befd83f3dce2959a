-- From member to member: what those before one leave, and what its cause makes of all.
use Rattle.std.proofs.Common.{◌≡◌, ℕ, zero, suc, ◌+◌, ◌<◌, List, [], ◌∷◌, ◌++◌, Some, None, length, take, drop, refl, sym, ap, ◌∙◌, arith}
use Rattle.std.proofs.lemmas.List.{take-append-drop, take_more}
use Rattle.s390x_base.specs.declared.error.EmitError.{EmitError}
use Rattle.s390x_inst.specs.Emission.{Emission}
use Rattle.s390x_inst.specs.declared.inst.Inst.{Inst}
use Rattle.s390x_inst.specs.declared.inst.Inst.TheVariants.{AllocateArgs, Nop0}
use Rattle.s390x_inst.specs.declared.state.IsaFlags.{IsaFlags}
use Rattle.s390x_typed_steps.specs.Calls.{safepoint}
use Rattle.s390x_typed_steps.specs.Causes.{Declared, first_emit_cause, fresh_labels, nominal_behind, stack_cause, tree_cause}
use Rattle.s390x_typed_steps.specs.Stack.{state_after}
use Rattle.s390x_typed_steps.specs.Tree.{Tree, empty, leaf, loop_node, block_tree, tree}
use Rattle.s390x_typed_steps.proofs.Baseline.{for_prepend}
use Rattle.s390x_typed_steps.proofs.Causes.{first_left, joined_cause}
use Rattle.s390x_typed_steps.proofs.Trees.{joined, joined_behind, joined_fresh_labels}
use Rattle.s390x_emit_int.specs.Members.{member_of}
use Rattle.s390x_emit_int.proofs.Members.{member_nominal}
use Rattle.s390x_refusal.specs.Members.{Point, with_safepoint, member_cause, members_at, members_cause, nth_member, nth_point, state_behind}
use Rattle.s390x_emit_int.proofs.Trees.{safepoint_after, safepoint_nominal}

joined_assoc : (t u v : Tree) → joined (joined t u) v ≡ joined t (joined u v)
joined_assoc empty u v = refl
joined_assoc (leaf b t) u v = ap (leaf b) (joined_assoc t u v)
joined_assoc (loop_node mask members t) u v = ap (loop_node mask members) (joined_assoc t u v)

-- where a member stands before others
begun : (flags : IsaFlags) (depth : ℕ) (e : Emission) (i : Inst) (is : List Inst) → members_at flags depth e (i ∷ is) ≡ joined (member_of flags (with_safepoint depth e i) i) (members_at flags depth (state_after e i) is)
begun flags zero e i is = for_prepend flags (safepoint e i) i (block_tree (state_after e i) is)
begun flags (suc depth) e i is = for_prepend flags e i (tree (state_after e i) is)

no_members : (flags : IsaFlags) (depth : ℕ) (e : Emission) (t : Tree) → joined (members_at flags depth e []) t ≡ t
no_members flags zero e t = refl
no_members flags (suc depth) e t = refl

-- members before others
members_append : (flags : IsaFlags) (depth : ℕ) (e : Emission) (xs ys : List Inst) → members_at flags depth e (xs ++ ys) ≡ joined (members_at flags depth e xs) (members_at flags depth (state_behind e xs) ys)
members_append flags depth e [] ys = sym (no_members flags depth e (members_at flags depth e ys))
members_append flags depth e (i ∷ xs) ys =
    let own = member_of flags (with_safepoint depth e i) i in
    let e' = state_after e i in
    let rest = members_at flags depth (state_behind e' xs) ys in
    begun flags depth e i (xs ++ ys)
    ∙ ap (joined own) (members_append flags depth e' xs ys)
    ∙ sym (joined_assoc own (members_at flags depth e' xs) rest)
    ∙ ap (λ t. joined t rest) (sym (begun flags depth e i xs))

-- the nominal size behind members is that of the state there
members_nominal : (flags : IsaFlags) (depth : ℕ) (e : Emission) (is : List Inst) → nominal_behind e.nominal (members_at flags depth e is) ≡ (state_behind e is).nominal
members_nominal flags zero e [] = refl
members_nominal flags (suc depth) e [] = refl
members_nominal flags depth e (i ∷ is) =
    let own = member_of flags (with_safepoint depth e i) i in
    let rest = members_at flags depth (state_after e i) is in
    ap (nominal_behind e.nominal) (begun flags depth e i is)
    ∙ joined_behind e.nominal own rest
    ∙ ap (λ m. nominal_behind m rest) (member_nominal flags (with_safepoint depth e i) e.nominal i)
    ∙ members_nominal flags depth (state_after e i) is

pub state_append : (e : Emission) (xs ys : List Inst) → state_behind e (xs ++ ys) ≡ state_behind (state_behind e xs) ys
state_append e [] ys = refl
state_append e (i ∷ xs) ys = state_append (state_after e i) xs ys

pub alone : (flags : IsaFlags) (depth : ℕ) (e : Emission) (i : Inst) → members_at flags depth e (i ∷ []) ≡ member_of flags (with_safepoint depth e i) i
alone flags zero e i = refl
alone flags (suc depth) e i = refl

-- the state behind a member is the same, whether it was a safepoint or not
pub marked_after : (depth : ℕ) (e : Emission) (i : Inst) → state_after (with_safepoint depth e i) i ≡ state_after e i
marked_after zero e i = safepoint_after e i
marked_after (suc depth) e i = refl

-- a member without a cause has none by the stack sizes
pub no_stack_cause : (flags : IsaFlags) (D : Declared) (e : Emission) (n nominal depth : ℕ) (i : Inst) → tree_cause flags D n nominal depth (member_of flags e i) ≡ None → stack_cause nominal depth i ≡ None
no_stack_cause flags D e n nominal depth (AllocateArgs size) h = first_left _ _ (first_left _ _ (first_left _ _ h))
no_stack_cause flags D e n nominal depth i h = refl

pub marked_nominal : (depth : ℕ) (e : Emission) (i : Inst) → (with_safepoint depth e i).nominal ≡ e.nominal
marked_nominal zero e i = safepoint_nominal e i
marked_nominal (suc depth) e i = refl

-- before the first member
pub labels_none : (flags : IsaFlags) (depth : ℕ) (e : Emission) (n : ℕ) → n ≡ n + fresh_labels (members_at flags depth e [])
labels_none flags zero e n = omega arith
labels_none flags (suc depth) e n = omega arith

pub cause_none : (flags : IsaFlags) (D : Declared) (p : Point) → members_cause flags D p [] ≡ None
cause_none flags D p = go p.depth
  where
    go : (d : ℕ) → tree_cause flags D p.labels p.state.nominal d (members_at flags d p.state []) ≡ None
    go zero = refl
    go (suc d) = refl

-- where members behind others begin
abbrev pub behind : IsaFlags → Point → List Inst → Point
behind flags p is = record { state = state_behind p.state is; labels = p.labels + fresh_labels (members_at flags p.depth p.state is); depth = p.depth }

-- the causes of members come before those behind them
pub cause_append : (flags : IsaFlags) (D : Declared) (p : Point) (xs ys : List Inst) → members_cause flags D p (xs ++ ys) ≡ first_emit_cause (members_cause flags D p xs) (members_cause flags D (behind flags p xs) ys)
cause_append flags D p xs ys =
    let n = p.labels in
    let m = p.state.nominal in
    let d = p.depth in
    let t = members_at flags d p.state xs in
    let u = members_at flags d (state_behind p.state xs) ys in
    ap (tree_cause flags D n m d) (members_append flags d p.state xs ys)
    ∙ joined_cause flags D n m d t u
    ∙ ap (λ k. first_emit_cause (tree_cause flags D n m d t) (tree_cause flags D (n + fresh_labels t) k d u)) (members_nominal flags d p.state xs)

-- the cause of a single one
pub alone_cause : (flags : IsaFlags) (D : Declared) (p : Point) (i : Inst) → members_cause flags D p (i ∷ []) ≡ member_cause flags D (record p { state = with_safepoint p.depth p.state i }) i
alone_cause flags D p i =
    ap (tree_cause flags D p.labels p.state.nominal p.depth) (alone flags p.depth p.state i)
    ∙ ap (λ m. tree_cause flags D p.labels m p.depth (member_of flags (with_safepoint p.depth p.state i) i)) (sym (marked_nominal p.depth p.state i))

-- those before member number k, and it
pub one_more : (flags : IsaFlags) (D : Declared) (p : Point) (is : List Inst) (k : ℕ) → k < length is → members_cause flags D p (take k is) ≡ None → members_cause flags D p (take (k + 1) is) ≡ member_cause flags D (nth_point flags p is k) (nth_member is k)
one_more flags D p is k lt none =
    let i = nth_member is k in
    let q = behind flags p (take k is) in
    ap (members_cause flags D p) (take_more is k Nop0 lt)
    ∙ cause_append flags D p (take k is) (i ∷ [])
    ∙ ap (λ o. first_emit_cause o (members_cause flags D q (i ∷ []))) none
    ∙ alone_cause flags D q i

-- how many labels are in use behind member number k
pub labels_more : (flags : IsaFlags) (depth : ℕ) (e : Emission) (is : List Inst) (k : ℕ) → k < length is → fresh_labels (members_at flags depth e (take (k + 1) is)) ≡ fresh_labels (members_at flags depth e (take k is)) + fresh_labels (member_of flags (with_safepoint depth (state_behind e (take k is)) (nth_member is k)) (nth_member is k))
labels_more flags depth e is k lt =
    let i = nth_member is k in
    let e' = state_behind e (take k is) in
    let t = members_at flags depth e (take k is) in
    ap (λ js. fresh_labels (members_at flags depth e js)) (take_more is k Nop0 lt)
    ∙ ap fresh_labels (members_append flags depth e (take k is) (i ∷ []))
    ∙ joined_fresh_labels t (members_at flags depth e' (i ∷ []))
    ∙ ap (λ u. fresh_labels t + fresh_labels u) (alone flags depth e' i)

-- the state behind it
pub state_more : (e : Emission) (is : List Inst) (k : ℕ) → k < length is → state_behind e (take (k + 1) is) ≡ state_after (state_behind e (take k is)) (nth_member is k)
state_more e is k lt = ap (state_behind e) (take_more is k Nop0 lt) ∙ state_append e (take k is) (nth_member is k ∷ [])

-- a cause of member number k, none before it having one, is the first of all
pub of_first : (flags : IsaFlags) (D : Declared) (p : Point) (is : List Inst) (k : ℕ) (error : EmitError) → k < length is → members_cause flags D p (take k is) ≡ None → member_cause flags D (nth_point flags p is k) (nth_member is k) ≡ Some error → members_cause flags D p is ≡ Some error
of_first flags D p is k error lt none some =
    let rest = members_cause flags D (behind flags p (take (k + 1) is)) (drop (k + 1) is) in
    ap (members_cause flags D p) (sym (take-append-drop (k + 1) is))
    ∙ cause_append flags D p (take (k + 1) is) (drop (k + 1) is)
    ∙ ap (λ o. first_emit_cause o rest) (one_more flags D p is k lt none ∙ some)
