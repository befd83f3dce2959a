-- The portions of a loop are those of its members between its opening and its end.
use Rattle.std.proofs.Common.{◌≡◌, ℕ, suc, ◌+◌, ◌<◌, Bool, true, false, List, [], ◌∷◌, ◌++◌, length, get_or, drop, drop-cons, Result, Ok, Err, IfOk, refl, sym, ap, ◌∙◌, arith, Vec, Global, append_assoc, append-nil}
use Rattle.s390x_inst.specs.declared.inst.Inst.{Inst, Row_of-Inst, end_of-Inst, more_of-Inst, items-the_row-Inst, items_hidden-the_row-Inst-0, roll-out-Inst}
use Rattle.s390x_inst.specs.declared.inst.Inst.TheVariants.{Loop'}
use Rattle.s390x_inst.specs.declared.inst.Inst.TheBlock.{hidden-the_row-Inst-0}
use Rattle.s390x_inst.specs.declared.inst.Inst.TheViews as V
use Rattle.s390x_inst.specs.Portions.{Portion, opening, closing, first_portion, portions, row_portions, members_portions}

row-members : {n : _} (k : Row_of-Inst n) → row_portions k ≡ members_portions (items-the_row-Inst n k)
row-members end_of-Inst = refl
row-members (more_of-Inst i rest) = ap (λ t. portions i ++ t) (row-members rest)

pub loop_portions : (i : Inst) (mask : ℕ) (v : Vec Inst Global) → i ≡ V.Loop mask v → portions i ≡ opening mask ∷ (members_portions v.items ++ closing ∷ [])
loop_portions i mask v is =
    ap portions is ∙ ap (λ xs. opening mask ∷ (xs ++ closing ∷ [])) (row-members (hidden-the_row-Inst-0 v) ∙ ap members_portions (items_hidden-the_row-Inst-0 v))

-- loops whose members have the same portions
pub same_loops : (i : Inst) (mask : ℕ) (v w : Vec Inst Global) (s : List Inst) → i ≡ V.Loop mask v → s ≡ v.items → members_portions w.items ≡ members_portions s → portions (V.Loop mask w) ≡ portions i
same_loops i mask v w s is at same =
    loop_portions (V.Loop mask w) mask w refl ∙ ap (λ xs. opening mask ∷ (xs ++ closing ∷ [])) (same ∙ ap members_portions at) ∙ sym (loop_portions i mask v is)

abbrev pub opens : Portion → Bool
opens (opening mask) = true
opens p = false

pub opens_no_loop : (i : Inst) → ((m : ℕ) (v : Vec Inst Global) → i ≡ V.Loop m v → ⊥) → opens (first_portion i) ≡ false
unfolding V.roll-Inst denote.Hole.Carrier.roll V.out-Inst denote.Hole.Carrier.out
opens_no_loop (Loop' mask body all) h = absurd (h mask _ (sym (roll-out-Inst (Loop' mask body all))))
opens_no_loop i h = refl

pub one_portion : (i : Inst) → opens (first_portion i) ≡ false → portions i ≡ first_portion i ∷ []
one_portion (Loop' mask body all) h = absurd cc
one_portion i h = refl

-- an instruction that is no loop, and one with its first portion
pub same_others : (i j : Inst) → ((m : ℕ) (v : Vec Inst Global) → i ≡ V.Loop m v → ⊥) → first_portion j ≡ first_portion i → portions j ≡ portions i
same_others i j h same =
    one_portion j (ap opens same ∙ opens_no_loop i h) ∙ ap (λ p. p ∷ []) same ∙ sym (one_portion i (opens_no_loop i h))

pub members_append : (xs ys : List Inst) → members_portions (xs ++ ys) ≡ members_portions xs ++ members_portions ys
members_append [] ys = refl
members_append (i ∷ is) ys = ap (λ t. portions i ++ t) (members_append is ys) ∙ sym (append_assoc (portions i) (members_portions is) (members_portions ys))

-- one more member is copied
pub member_turn : (is done after : List Inst) (k : ℕ) (i j : Inst) → k < length is → i ≡ get_or is k i → portions j ≡ portions i → after ≡ done ++ j ∷ [] → members_portions done ++ members_portions (drop k is) ≡ members_portions is → members_portions after ++ members_portions (drop (k + 1) is) ≡ members_portions is
member_turn is done after k i j lt at same pushed h =
    let k1 : suc k ≡ k + 1 = omega arith in
    let d : drop k is ≡ i ∷ drop (k + 1) is = drop-cons is k i lt ∙ ap (λ y. y ∷ drop (suc k) is) (sym at) ∙ ap (λ m. i ∷ drop m is) k1 in
    let one : members_portions (j ∷ []) ≡ portions i = append-nil (portions j) ∙ same in
    let a : members_portions after ≡ members_portions done ++ portions i = ap members_portions pushed ∙ members_append done (j ∷ []) ∙ ap (λ t. members_portions done ++ t) one in
    ap (λ t. t ++ members_portions (drop (k + 1) is)) a
    ∙ append_assoc (members_portions done) (portions i) (members_portions (drop (k + 1) is))
    ∙ ap (λ xs. members_portions done ++ members_portions xs) (sym d)
    ∙ h

-- the answer for one that is no loop
pub copied_other : {E : Type 0} (i : Inst) (r : Result Inst E) → ((m : ℕ) (v : Vec Inst Global) → i ≡ V.Loop m v → ⊥) → IfOk r (λ j. first_portion j ≡ first_portion i) → IfOk r (λ j. portions j ≡ portions i)
copied_other i (Ok j) h same = same_others i j h same
copied_other i (Err e) h same = tt
