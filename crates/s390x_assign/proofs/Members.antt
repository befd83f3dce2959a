-- The registers of a loop's members, one member after the other.
use Rattle.std.proofs.Common.{◌≡◌, ℕ, ◌+◌, ◌<◌, ◌≤◌, false, List, [], ◌∷◌, ◌++◌, length, get_or, drop, Result, Ok, Err, IfOk, refl, sym, ap, ◌∙◌, Vec, Global, append_assoc, append-nil}
use Rattle.std.proofs.lemmas.List.{drop_all}
use Rattle.s390x_base.specs.declared.regs.Reg.{Reg}
use Rattle.s390x_inst.specs.declared.inst.Inst.{Inst}
use Rattle.s390x_inst.specs.declared.inst.Inst.TheViews as V
use Rattle.s390x_inst.specs.Portions.{Portion, plain, indirect_branch, jump_table, calling, tail_calling, arguments, results, opening, closing, first_portion, portions, members_portions}
use Rattle.s390x_inst.proofs.Portions.{loop_portions, opens, opens_no_loop, members_append, one_portion}
use Rattle.s390x_assign.specs.Assignments.{assigned_portions, each_at, portion_at, IsPortion, ArePortions}
use Rattle.s390x_operands.proofs.Looping.{cons_of}

opens_still : (p : Portion) (s : List Reg) → opens (portion_at p s).0 ≡ opens p
opens_still (plain i) s = refl
opens_still p s = refl

-- the answer for an instruction that is no loop
pub given_other : {E : Type 0} (i : Inst) (r : Result Inst E) (s₀ s₁ : List Reg) → ((m : ℕ) (v : Vec Inst Global) → i ≡ V.Loop m v → ⊥) → IfOk r (λ j. IsPortion (portion_at (first_portion i) s₀) j s₁) → IfOk r (λ j. ArePortions (assigned_portions (portions i) s₀) (portions j) s₁)
given_other i (Ok j) s₀ s₁ h same =
    let a : opens (first_portion j) ≡ false = sym (ap (λ p. opens p.0) same) ∙ opens_still (first_portion i) s₀ ∙ opens_no_loop i h in
    ap (λ ps. assigned_portions ps s₀) (one_portion i (opens_no_loop i h)) ∙ ap (λ p. (p.0 ∷ [], p.1)) same ∙ ap (λ ps. (ps, s₁)) (sym (one_portion j a))
given_other i (Err e) s₀ s₁ h same = tt

each_append : (xs ys : List Portion) (s : List Reg) → each_at portion_at (xs ++ ys) s ≡ ((each_at portion_at xs s).0 ++ (each_at portion_at ys (each_at portion_at xs s).1).0, (each_at portion_at ys (each_at portion_at xs s).1).1)
each_append [] ys s = refl
each_append (x ∷ xs) ys s = ap (λ p. ((portion_at x s).0 ∷ p.0, p.1)) (each_append xs ys (portion_at x s).1)

-- a loop, from its members
pub given_loop : (i : Inst) (mask : ℕ) (v w : Vec Inst Global) (ms : List Inst) (s₀ s₁ : List Reg) → i ≡ V.Loop mask v → ms ≡ v.items → ArePortions (assigned_portions (members_portions ms) s₀) (members_portions w.items) s₁ → ArePortions (assigned_portions (portions i) s₀) (portions (V.Loop mask w)) s₁
given_loop i mask v w ms s₀ s₁ is at h =
    ap (λ ps. assigned_portions ps s₀) (loop_portions i mask v is ∙ ap (λ xs. opening mask ∷ (members_portions xs ++ closing ∷ [])) (sym at))
    ∙ ap (λ p. (opening mask ∷ p.0, p.1)) (each_append (members_portions ms) (closing ∷ []) s₀)
    ∙ ap (λ p. (opening mask ∷ (p.0 ++ closing ∷ []), p.1)) h
    ∙ ap (λ ps. (ps, s₁)) (sym (loop_portions (V.Loop mask w) mask w refl))

-- the registers of the members behind one
members_behind : (is : List Inst) (k : ℕ) (i j : Inst) (s₀ s₁ : List Reg) → k < length is → i ≡ get_or is k i → ArePortions (assigned_portions (portions i) s₀) (portions j) s₁ → assigned_portions (members_portions (drop k is)) s₀ ≡ (portions j ++ (assigned_portions (members_portions (drop (k + 1) is)) s₁).0, (assigned_portions (members_portions (drop (k + 1) is)) s₁).1)
members_behind is k i j s₀ s₁ lt at h =
    ap (λ xs. assigned_portions (members_portions xs) s₀) (cons_of is k i lt at)
    ∙ each_append (portions i) (members_portions (drop (k + 1) is)) s₀
    ∙ ap (λ p. (p.0 ++ (assigned_portions (members_portions (drop (k + 1) is)) p.1).0, (assigned_portions (members_portions (drop (k + 1) is)) p.1).1)) h

-- one more member has its registers
pub member_given : (is done after : List Inst) (k : ℕ) (i j : Inst) (s₀ s₁ : List Reg) (t : List Portion) → k < length is → i ≡ get_or is k i → ArePortions (assigned_portions (portions i) s₀) (portions j) s₁ → after ≡ done ++ j ∷ [] → members_portions done ++ (assigned_portions (members_portions (drop k is)) s₀).0 ≡ t → members_portions after ++ (assigned_portions (members_portions (drop (k + 1) is)) s₁).0 ≡ t
member_given is done after k i j s₀ s₁ t lt at h pushed before =
    let rest : List Portion = (assigned_portions (members_portions (drop (k + 1) is)) s₁).0 in
    ap (λ l. members_portions l ++ rest) pushed
    ∙ ap (λ l. l ++ rest) (members_append done (j ∷ []) ∙ ap (λ l. members_portions done ++ l) (append-nil (portions j)))
    ∙ append_assoc (members_portions done) (portions j) rest
    ∙ ap (λ p. members_portions done ++ p.0) (sym (members_behind is k i j s₀ s₁ lt at h))
    ∙ before

pub member_left : (is : List Inst) (k : ℕ) (i j : Inst) (s₀ s₁ t : List Reg) → k < length is → i ≡ get_or is k i → ArePortions (assigned_portions (portions i) s₀) (portions j) s₁ → (assigned_portions (members_portions (drop k is)) s₀).1 ≡ t → (assigned_portions (members_portions (drop (k + 1) is)) s₁).1 ≡ t
member_left is k i j s₀ s₁ t lt at h before = ap (λ p. p.1) (sym (members_behind is k i j s₀ s₁ lt at h)) ∙ before

-- all members have their registers
pub members_given : (is done : List Inst) (k : ℕ) (s : List Reg) (x : List Portion × List Reg) → length is ≤ k → members_portions done ++ (assigned_portions (members_portions (drop k is)) s).0 ≡ x.0 → (assigned_portions (members_portions (drop k is)) s).1 ≡ x.1 → ArePortions x (members_portions done) s
members_given is done k s x le value left =
    let none : drop k is ≡ [] = drop_all k is le in
    let a : members_portions done ≡ x.0 = sym (append-nil (members_portions done)) ∙ sym (ap (λ xs. members_portions done ++ (assigned_portions (members_portions xs) s).0) none) ∙ value in
    let b : s ≡ x.1 = sym (ap (λ xs. (assigned_portions (members_portions xs) s).1) none) ∙ left in
    ap (λ p. (p, x.1)) (sym a) ∙ ap (λ q. (members_portions done, q)) (sym b)
