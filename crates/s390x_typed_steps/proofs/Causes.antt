-- First causes, and what holds where none stands.
use Rattle.std.proofs.Common.{◌≡◌, ℕ, ◌+◌, Bool, true, false, Option, None, Some, refl, ap, ◌∙◌, arith}
use Rattle.s390x_inst.specs.Emission.{Emission}
use Rattle.s390x_inst.specs.declared.state.IsaFlags.{IsaFlags}
use Rattle.s390x_base.specs.declared.error.EmitError.{EmitError}
use Rattle.s390x_typed_steps.specs.Tree.{Tree, empty, leaf, loop_node, prepend}
use Rattle.s390x_typed_steps.specs.Stack.{nominal_after}
use Rattle.s390x_typed_steps.specs.Causes.{Declared, first_emit_cause, unless, body_cause, body_fresh_labels, body_nominal_after, fresh_labels, nesting_cause, nominal_behind, numbers_cause, tree_cause}
use Rattle.s390x_typed_steps.proofs.Trees.{joined, prepend_joined, prepend_nominal}
use Rattle.s390x_inst.specs.declared.inst.Inst.{Inst}

pub first_none : (o : Option EmitError) → first_emit_cause o None ≡ o
first_none None = refl
first_none (Some e) = refl

pub first_left : (a b : Option EmitError) → first_emit_cause a b ≡ None → a ≡ None
first_left None b h = refl
first_left (Some e) b h = h

pub first_right : (a b : Option EmitError) → first_emit_cause a b ≡ None → b ≡ None
first_right None b h = h
first_right (Some e) b h = absurd (cc)

pub unless_true : (t : Bool) (e : EmitError) → unless t e ≡ None → t ≡ true
unless_true true e h = refl
unless_true false e h = absurd (cc)

first_assoc : (a b c : Option EmitError) → first_emit_cause a (first_emit_cause b c) ≡ first_emit_cause (first_emit_cause a b) c
first_assoc None b c = refl
first_assoc (Some e) b c = refl

-- the causes of one tree come before those of the other
pub joined_cause : (flags : IsaFlags) (D : Declared) (n m depth : ℕ) (t u : Tree) → tree_cause flags D n m depth (joined t u) ≡ first_emit_cause (tree_cause flags D n m depth t) (tree_cause flags D (n + fresh_labels t) (nominal_behind m t) depth u)
joined_cause flags D n m depth empty u = let e : n ≡ n + 0 = omega arith in ap (λ l. tree_cause flags D l m depth u) e
joined_cause flags D n m depth (leaf b t) u =
    let own = body_cause flags D n m depth b in
    let d = body_fresh_labels b in
    let next = body_nominal_after m b in
    let e : n + d + fresh_labels t ≡ n + (d + fresh_labels t) = omega arith in
    ap (first_emit_cause own) (joined_cause flags D (n + d) next depth t u)
    ∙ first_assoc own (tree_cause flags D (n + d) next depth t) (tree_cause flags D (n + d + fresh_labels t) (nominal_behind next t) depth u)
    ∙ ap (λ l. first_emit_cause (first_emit_cause own (tree_cause flags D (n + d) next depth t)) (tree_cause flags D l (nominal_behind next t) depth u)) e
joined_cause flags D n m depth (loop_node mask members t) u =
    let own = first_emit_cause (first_emit_cause (nesting_cause depth) (numbers_cause n 2)) (tree_cause flags D (n + 2) m (depth + 1) members) in
    let d = 2 + fresh_labels members in
    let first : n + 2 + fresh_labels members ≡ n + d = omega arith in
    let e : n + 2 + fresh_labels members + fresh_labels t ≡ n + (d + fresh_labels t) = omega arith in
    ap (first_emit_cause own) (joined_cause flags D (n + 2 + fresh_labels members) m depth t u)
    ∙ first_assoc own (tree_cause flags D (n + 2 + fresh_labels members) m depth t) (tree_cause flags D (n + 2 + fresh_labels members + fresh_labels t) (nominal_behind m t) depth u)
    ∙ ap (λ l. first_emit_cause (first_emit_cause own (tree_cause flags D (n + 2 + fresh_labels members) m depth t)) (tree_cause flags D l (nominal_behind m t) depth u)) e

-- a member's cause comes before those of the others
pub prepend_cause : (flags : IsaFlags) (e : Emission) (D : Declared) (n m depth : ℕ) (i : Inst) (rest : Tree) → tree_cause flags D n m depth (prepend e i rest) ≡ first_emit_cause (tree_cause flags D n m depth (prepend e i empty)) (tree_cause flags D (n + fresh_labels (prepend e i empty)) (nominal_after m i) depth rest)
prepend_cause flags e D n m depth i rest =
    let own = prepend e i empty in
    ap (tree_cause flags D n m depth) (prepend_joined e i rest)
    ∙ joined_cause flags D n m depth own rest
    ∙ ap (λ l. first_emit_cause (tree_cause flags D n m depth own) (tree_cause flags D (n + fresh_labels own) l depth rest)) (prepend_nominal e m i)
