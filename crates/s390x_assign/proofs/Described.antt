-- An instruction whose roles have their registers is the instruction with its registers.
use Rattle.std.proofs.Common.{◌≡◌, List, [], ◌∷◌, Option, Some, None, Result, Ok, Err, IfOk, refl, sym, ap, ◌∙◌}
use Rattle.s390x_base.specs.declared.regs.Reg.{Reg}
use Rattle.s390x_inst.specs.declared.inst.Inst.{Inst}
use Rattle.s390x_inst.specs.declared.inst.Inst.TheVariants as I
use Rattle.s390x_inst.specs.Portions.{Portion, closing, first_portion, portions}
use Rattle.s390x_described.specs.Instructions.{description_of}
use Rattle.s390x_described.specs.Roles.{again_or_none}
use Rattle.s390x_assign.specs.Assignments.{assigned_role, as_it_is, portion_by, portion_at, IsPortion}

-- an answer by one definition is one by another
pub carried : {E : Type 0} (p q : Portion × List Reg) (r : Result Inst E) (t : List Reg) → ◌≡◌ {A = Portion × List Reg} p q → IfOk r (λ j. IsPortion q j t) → IfOk r (λ j. IsPortion p j t)
carried p q (Ok j) t e h = e ∙ h
carried p q (Err x) t e h = tt

-- an instruction with other registers as a portion, or what else is said
abbrev portion_again : Option Inst → List Reg → (List Reg → Portion × List Reg) → Portion × List Reg
portion_again None t other = other t
portion_again (Some j) t other = (first_portion j, t)

abbrev again : Inst → List Reg → Option Inst × List Reg
again i s = again_or_none assigned_role (description_of i) s

abbrev by_lists : Inst → List Reg → Portion × List Reg
by_lists i t = portion_by as_it_is (first_portion i) t

-- one clause stands for every instruction
portion_is : (i : Inst) (s : List Reg) → ◌≡◌ {A = Portion × List Reg} (portion_at (first_portion i) s) (portion_again (again i s).0 (again i s).1 (by_lists i))
portion_is I.Fence s = refl
portion_is i s = refl

pub given_again : (i j : Inst) (s t : List Reg) → (again_or_none assigned_role (description_of i) s).0 ≡ Some j → t ≡ (again_or_none assigned_role (description_of i) s).1 → IsPortion (portion_at (first_portion i) s) j t
given_again i j s t h left = portion_is i s ∙ ap (λ o. portion_again o (again i s).1 (by_lists i)) h ∙ ap (λ r. (first_portion j, r)) (sym left)

pub not_described : (i : Inst) (s t : List Reg) → (again_or_none assigned_role (description_of i) s).0 ≡ None → t ≡ (again_or_none assigned_role (description_of i) s).1 → ◌≡◌ {A = Portion × List Reg} (portion_at (first_portion i) s) (portion_by as_it_is (first_portion i) t)
not_described i s t h left = portion_is i s ∙ ap (λ o. portion_again o (again i s).1 (by_lists i)) h ∙ ap (by_lists i) (sym left)

-- an instruction with the same portions begins with the same one
abbrev pub head_or : Portion → List Portion → Portion
head_or p [] = p
head_or p (q ∷ qs) = q

pub head_portion : (i : Inst) → head_or closing (portions i) ≡ first_portion i
head_portion (I.Loop' mask body all) = refl
head_portion i = refl

same_first : (i j : Inst) → portions j ≡ portions i → first_portion j ≡ first_portion i
same_first i j h = sym (head_portion j) ∙ ap (head_or closing) h ∙ head_portion i

-- what has no list stays as it is
unchanged : (i : Inst) (s : List Reg) → ((rn targets : _) → i ≡ I.IndirectBr rn targets → ⊥) → ((ridx default default_cond targets : _) → i ≡ I.JTSequence ridx default default_cond targets → ⊥) → ((link info : _) → i ≡ I.Call link info → ⊥) → ((info : _) → i ≡ I.ReturnCall info → ⊥) → ((args : _) → i ≡ I.Args args → ⊥) → ((rets : _) → i ≡ I.Rets rets → ⊥) →
    ◌≡◌ {A = Portion × List Reg} (by_lists i s) (first_portion i, s)
unchanged (I.IndirectBr rn targets) s h0 h1 h2 h3 h4 h5 = absurd (h0 rn targets refl)
unchanged (I.JTSequence ridx default default_cond targets) s h0 h1 h2 h3 h4 h5 = absurd (h1 ridx default default_cond targets refl)
unchanged (I.Call link info) s h0 h1 h2 h3 h4 h5 = absurd (h2 link info refl)
unchanged (I.ReturnCall info) s h0 h1 h2 h3 h4 h5 = absurd (h3 info refl)
unchanged (I.Args args) s h0 h1 h2 h3 h4 h5 = absurd (h4 args refl)
unchanged (I.Rets rets) s h0 h1 h2 h3 h4 h5 = absurd (h5 rets refl)
unchanged i s h0 h1 h2 h3 h4 h5 = refl

-- a copy of an instruction that takes no register
pub copied : (i j : Inst) (s : List Reg) → portions j ≡ portions i → ((rn targets : _) → i ≡ I.IndirectBr rn targets → ⊥) → ((ridx default default_cond targets : _) → i ≡ I.JTSequence ridx default default_cond targets → ⊥) → ((link info : _) → i ≡ I.Call link info → ⊥) → ((info : _) → i ≡ I.ReturnCall info → ⊥) → ((args : _) → i ≡ I.Args args → ⊥) → ((rets : _) → i ≡ I.Rets rets → ⊥) →
    IsPortion (portion_by as_it_is (first_portion i) s) j s
copied i j s same h0 h1 h2 h3 h4 h5 = unchanged i s h0 h1 h2 h3 h4 h5 ∙ ap (λ p. (p, s)) (sym (same_first i j same))
