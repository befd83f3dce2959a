-- The outgoing size behind the members of a loop is that behind their list.
use Rattle.std.proofs.Common.{◌≡◌, ℕ, suc, ◌+◌, ◌<◌, ◌≤◌, List, ◌∷◌, length, get_or, drop, drop-cons, refl, sym, ap, ◌∙◌, Vec, Global, arith}
use Rattle.std.proofs.lemmas.List.{drop_all}
use Rattle.s390x_inst.specs.declared.inst.Inst.{Inst, Row_of-Inst, end_of-Inst, more_of-Inst, items-the_row-Inst, items_hidden-the_row-Inst-0}
use Rattle.s390x_inst.specs.declared.inst.Inst.TheBlock.{hidden-the_row-Inst-0}
use Rattle.s390x_inst.specs.declared.inst.Inst.TheViews as V
use Rattle.s390x_typed_steps.specs.Stack.{outgoing_after, outgoing_behind}
use Rattle.s390x_emit_int.specs.Stack.{outgoing_behind_all}

outgoing_row : (outgoing : ℕ) {n : _} (k : Row_of-Inst n) → outgoing_behind outgoing k ≡ outgoing_behind_all outgoing (items-the_row-Inst n k)
outgoing_row outgoing end_of-Inst = refl
outgoing_row outgoing (more_of-Inst i rest) = outgoing_row (outgoing_after outgoing i) rest

pub outgoing_loop : (outgoing : ℕ) (i : Inst) (mask : ℕ) (v : Vec Inst Global) (s : List Inst) → i ≡ V.Loop mask v → s ≡ v.items → outgoing_after outgoing i ≡ outgoing_behind_all outgoing s
outgoing_loop outgoing i mask v s is at =
    ap (outgoing_after outgoing) is
    ∙ outgoing_row outgoing (hidden-the_row-Inst-0 v)
    ∙ ap (outgoing_behind_all outgoing) (items_hidden-the_row-Inst-0 v)
    ∙ ap (outgoing_behind_all outgoing) (sym at)

-- one more member
pub outgoing_more : (outgoing : ℕ) (is : List Inst) (k : ℕ) (i : Inst) → k < length is → i ≡ get_or is k i → outgoing_behind_all (outgoing_after outgoing i) (drop (k + 1) is) ≡ outgoing_behind_all outgoing (drop k is)
outgoing_more outgoing is k i lt at =
    let k1 : suc k ≡ k + 1 = omega arith in
    sym (ap (outgoing_behind_all outgoing) (drop-cons is k i lt ∙ ap (λ x. x ∷ drop (suc k) is) (sym at) ∙ ap (λ m. i ∷ drop m is) k1))

-- behind the last
pub outgoing_end : (outgoing : ℕ) (is : List Inst) (k : ℕ) → length is ≤ k → outgoing_behind_all outgoing (drop k is) ≡ outgoing
outgoing_end outgoing is k h = ap (outgoing_behind_all outgoing) (drop_all k is h)
