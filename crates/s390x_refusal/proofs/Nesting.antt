-- From a loop to its members.
use Rattle.std.proofs.Common.{◌≡◌, ℕ, ◌+◌, List, [], ◌∷◌, Option, Some, None, refl, sym, ap, ap₂, ◌∙◌, subst, Vec, Global, add-one}
use Rattle.s390x_base.specs.declared.error.EmitError.{EmitError}
use Rattle.s390x_inst.specs.Emission.{Emission}
use Rattle.s390x_inst.specs.declared.inst.Inst.{Inst, items_hidden-the_row-Inst-0}
use Rattle.s390x_inst.specs.declared.inst.Inst.TheViews as V
use Rattle.s390x_inst.specs.declared.state.IsaFlags.{IsaFlags}
use Rattle.s390x_typed_steps.specs.Baseline.{tree_for}
use Rattle.s390x_typed_steps.specs.Calls.{without_map}
use Rattle.s390x_typed_steps.specs.Causes.{Declared, first_emit_cause, nesting_cause, numbers_cause, tree_cause}
use Rattle.s390x_typed_steps.specs.Tree.{empty}
use Rattle.s390x_typed_steps.proofs.Causes.{first_none}
use Rattle.s390x_typed_steps.proofs.Trees.{prepend_loop}
use Rattle.s390x_emit_int.specs.Members.{members_of}
use Rattle.s390x_refusal.specs.Members.{IsReached, IsRefusedAmong, IsRefusedAt, Point, member_cause, members_at, members_cause, members_in, nth_member, nth_point, own_cause, point_inside}
use Rattle.s390x_refusal.specs.Search.{IsPathAmong, IsPathTo}

in_loop : (flags : IsaFlags) (depth : ℕ) (e : Emission) (is : List Inst) → members_at flags (depth + 1) e is ≡ members_of flags e is
in_loop flags depth e is = ap (λ d. members_at flags d e is) (add-one depth)

-- the members of a loop
pub members_are : (i : Inst) (mask : ℕ) (v : Vec Inst Global) → i ≡ V.Loop mask v → members_in i ≡ v.items
members_are i mask v is = ap members_in is ∙ items_hidden-the_row-Inst-0 v

-- a loop itself is refused for its nesting or its labels
pub own_of_loop : (flags : IsaFlags) (D : Declared) (p : Point) (i : Inst) (mask : ℕ) (v : Vec Inst Global) → i ≡ V.Loop mask v → own_cause flags D p i ≡ first_emit_cause (nesting_cause p.depth) (numbers_cause p.labels 2)
own_of_loop flags D p i mask v is = ap (own_cause flags D p) is

-- its own cause comes before those of its members
pub loop_cause : (flags : IsaFlags) (D : Declared) (p : Point) (i : Inst) (mask : ℕ) (v : Vec Inst Global) → i ≡ V.Loop mask v → member_cause flags D p i ≡ first_emit_cause (own_cause flags D p i) (members_cause flags D (point_inside p) (members_in i))
loop_cause flags D p i mask v is =
    let n = p.labels in
    let m = p.state.nominal in
    let d = p.depth in
    let own = first_emit_cause (nesting_cause d) (numbers_cause n 2) in
    let members = members_of flags (without_map p.state) v.items in
    ap (λ t. tree_cause flags D n m d (tree_for flags t)) (prepend_loop p.state i mask v v.items empty is refl)
    ∙ first_none (first_emit_cause own (tree_cause flags D (n + 2) m (d + 1) members))
    ∙ ap (λ t. first_emit_cause own (tree_cause flags D (n + 2) m (d + 1) t)) (sym (in_loop flags d (without_map p.state) v.items))
    ∙ ap (λ js. first_emit_cause own (members_cause flags D (point_inside p) js)) (sym (members_are i mask v is))
    ∙ ap (λ o. first_emit_cause o (members_cause flags D (point_inside p) (members_in i))) (sym (own_of_loop flags D p i mask v is))

-- where a loop itself has no cause, it is refused by its members
pub through_loop : (flags : IsaFlags) (D : Declared) (p : Point) (i : Inst) (error : EmitError) (path : List ℕ) → own_cause flags D p i ≡ None → IsRefusedAmong flags D (point_inside p) (members_in i) error path → IsRefusedAt flags D p i error path
through_loop flags D p i error [] none h = absurd h
through_loop flags D p i error (k ∷ path) none h = (none, h.0, h.1)

-- of two first causes the earlier one, and behind none the later one
pub same_error : (o : Option EmitError) (a b : EmitError) → o ≡ Some a → o ≡ Some b → a ≡ b
same_error o a b ea eb = go (sym ea ∙ eb)
  where
    go : Some a ≡ Some b → a ≡ b
    go h = cc

-- ---- paths

-- the path to a member, from that inside of it
pub path_of_member : (flags : IsaFlags) (D : Declared) (p q : Point) (is : List Inst) (k : ℕ) (i : Inst) (error : EmitError) (path : List ℕ) → IsReached flags D p is k → q ≡ nth_point flags p is k → i ≡ nth_member is k → member_cause flags D (nth_point flags p is k) (nth_member is k) ≡ Some error → IsPathTo flags D q i path → IsRefusedAmong flags D p is error (k ∷ path)
path_of_member flags D p q is k i error path reached at same some h =
    (reached, subst (λ j. IsRefusedAt flags D (nth_point flags p is k) j error path) same (subst (λ r. IsRefusedAt flags D r i error path) at (h error (ap₂ (member_cause flags D) at same ∙ some))))

-- one that is refused by its members
pub path_through : (flags : IsaFlags) (D : Declared) (p q : Point) (i : Inst) (mask : ℕ) (v : Vec Inst Global) (is : List Inst) (path : Vec ℕ Global) → i ≡ V.Loop mask v → first_emit_cause (nesting_cause p.depth) (numbers_cause p.labels 2) ≡ None → q ≡ point_inside p → is ≡ v.items → IsPathAmong flags D q is (Some path) → IsPathTo flags D p i path.items
path_through flags D p q i mask v is path loop free at same h error cause =
    let own = own_of_loop flags D p i mask v loop ∙ free in
    let found : IsPathAmong flags D (point_inside p) (members_in i) (Some path) = subst (λ r. IsPathAmong flags D r (members_in i) (Some path)) at (subst (λ js. IsPathAmong flags D q js (Some path)) (same ∙ sym (members_are i mask v loop)) h) in
    let all : member_cause flags D p i ≡ Some found.0 = loop_cause flags D p i mask v loop ∙ ap (λ o. first_emit_cause o (members_cause flags D (point_inside p) (members_in i))) own ∙ found.1 in
    through_loop flags D p i error path.items own (subst (λ x. IsRefusedAmong flags D (point_inside p) (members_in i) x path.items) (same_error (member_cause flags D p i) found.0 error all cause) found.2)

-- one of which nothing is refused
pub path_of_none : (flags : IsaFlags) (D : Declared) (p q : Point) (i : Inst) (mask : ℕ) (v : Vec Inst Global) (path : List ℕ) (js : List Inst) → i ≡ V.Loop mask v → first_emit_cause (nesting_cause p.depth) (numbers_cause p.labels 2) ≡ None → q ≡ point_inside p → js ≡ v.items → members_cause flags D q js ≡ None → IsPathTo flags D p i path
path_of_none flags D p q i mask v path js loop free at same none error cause =
    let own = own_of_loop flags D p i mask v loop ∙ free in
    let inside : members_cause flags D (point_inside p) (members_in i) ≡ None = ap₂ (members_cause flags D) (sym at) (members_are i mask v loop ∙ sym same) ∙ none in
    let all : member_cause flags D p i ≡ None = loop_cause flags D p i mask v loop ∙ ap (λ o. first_emit_cause o (members_cause flags D (point_inside p) (members_in i))) own ∙ inside in
    let clash = sym all ∙ cause in
    absurd cc
