-- The lines of instructions are those of their portions, and they stand within a block.
use Rattle.std.proofs.Common.{◌≡◌, ℕ, suc, ◌⊎◌, inl, inr, Option, Some, None, List, [], ◌∷◌, ◌++◌, map, refl, sym, ap, ◌∙◌, subst}
use Rattle.std.specs.Prelude.{nat_lt, if◌then◌else◌}
use Rattle.std.proofs.lemmas.List.{map-append}
use Rattle.s390x_base.specs.declared.regs.Reg.{Reg}
use Rattle.s390x_inst.specs.Portions.{Portion, closing, plain, portions, row_portions}
use Rattle.s390x_inst.specs.declared.inst.Inst.{Inst, Row_of-Inst, end_of-Inst, more_of-Inst}
use Rattle.s390x_inst.specs.declared.inst.Inst.TheVariants as I
use Rattle.s390x_inst.specs.declared.vec_inst.VecInst.{VecInst}
use Rattle.s390x_inst.specs.declared.vec_inst.VecInst.TheVariants as V
use Rattle.s390x_job_lines.specs.Instructions.{vector_line}
use Rattle.s390x_job_lines.specs.Line.{Line}
use Rattle.s390x_job.specs.Grammar.{Instruction, Place, Within, class, next_place, run}
use Rattle.s390x_job.specs.Items.{close_line, loop_line}
use Rattle.s390x_job.specs.Jobs.{AllLines, inst_lines, insts_lines, row_lines}
use Rattle.s390x_job.proofs.Whole.{either, run_append}
use Rattle.s390x_assign.specs.Assignments.{assigned_portions, assigned_vector, portion_at}
use Rattle.s390x_job_plan.proofs.PortionLines.{PortionLines, first_line, portion_line}
pub use Rattle.s390x_job.proofs.Whole.{all_append as lines_append, all_rest as lines_back}

mutual
  pub tree_lines : (i : Inst) → inst_lines i ≡ map portion_line (portions i)
  tree_lines (I.Loop' mask body members) =
      ap (λ t. loop_line mask ∷ t) (ap (λ t. t ++ close_line ∷ []) (row_tree_lines members) ∙ sym (map-append portion_line (row_portions members) (closing ∷ [])))
  tree_lines (I.Call link info) = ap (λ l. l ∷ []) (first_line (I.Call link info))
  tree_lines i = refl

  row_tree_lines : {m : _} (r : Row_of-Inst m) → row_lines r ≡ map portion_line (row_portions r)
  row_tree_lines end_of-Inst = refl
  row_tree_lines (more_of-Inst i rest) =
      ap (λ t. t ++ row_lines rest) (tree_lines i) ∙ ap (λ t. map portion_line (portions i) ++ t) (row_tree_lines rest) ∙ sym (map-append portion_line (portions i) (row_portions rest))

-- ---- lines in their ranges

pub to_portions : (ps : List Portion) → AllLines (map portion_line ps) → PortionLines ps
to_portions [] h = tt
to_portions (p ∷ ps) h = (h.0, to_portions ps h.1)

pub from_portions : (ps : List Portion) → PortionLines ps → AllLines (map portion_line ps)
from_portions [] h = tt
from_portions (p ∷ ps) h = (h.0, from_portions ps h.1)

pub lines_front : (a b : List Line) → AllLines (a ++ b) → AllLines a
lines_front [] b h = tt
lines_front (l ∷ a) b h = (h.0, lines_front a b h.1)

-- ---- lines in their order

-- the place stays, or there is none
abbrev Stays : Place → Option Place → Type 0
Stays p o = (o ≡ None) ⊎ (o ≡ Some p)

stays_then : (p : Place) (o : Option Place) (ls : List Line) → Stays p o → Stays p (run (Some p) ls) → Stays p (run o ls)
stays_then p o ls (inl e) h = inl (ap (λ q. run q ls) e)
stays_then p o ls (inr e) h = subst (Stays p) (ap (λ q. run q ls) (sym e)) h

opened : (d : ℕ) (rest : List Line) (o : Option Place) → o ≡ (if nat_lt d 9 then Some (Within (suc d)) else None) → Stays (Within (suc d)) (run (Some (Within (suc d))) rest)
    → Stays (Within d) (run (run o rest) (close_line ∷ []))
opened d rest o e h =
    elim (either (nat_lt d 9)) [
      | inl t ↦
          let at : o ≡ Some (Within (suc d)) = e ∙ ap (λ b. if b then Some (Within (suc d)) else None) t in
          closed d (run o rest) (subst (Stays (Within (suc d))) (ap (λ q. run q rest) (sym at)) h)
      | inr t ↦
          let at : o ≡ None = e ∙ ap (λ b. if b then Some (Within (suc d)) else None) t in
          inl (ap (λ q. run (run q rest) (close_line ∷ [])) at)
    ]
  where
    closed : (d : ℕ) (q : Option Place) → Stays (Within (suc d)) q → Stays (Within d) (run q (close_line ∷ []))
    closed d q (inl f) = inl (ap (λ r. run r (close_line ∷ [])) f)
    closed d q (inr f) = inr (ap (λ r. run r (close_line ∷ [])) f)

vector_class : (v : VecInst) → class (vector_line v) ≡ Instruction
vector_class (V.VecRR op rd rn) = refl
vector_class v = refl

one_stays : (d : ℕ) (l : Line) → class l ≡ Instruction → Stays (Within d) (run (Some (Within d)) (l ∷ []))
one_stays d l e = inr (ap (λ c. run (next_place (Within d) c) []) e)

mutual
  pub tree_stays : (i : Inst) (d : ℕ) → Stays (Within d) (run (Some (Within d)) (inst_lines i))
  tree_stays (I.Loop' mask body members) d =
      subst (Stays (Within d)) (sym (run_append (row_lines members) (next_place (Within d) (class (loop_line mask))) (close_line ∷ [])))
      (opened d (row_lines members) (next_place (Within d) (class (loop_line mask))) refl (row_stays members (suc d)))
  tree_stays (I.Vector v) d = one_stays d (vector_line v) (vector_class v)
  tree_stays i d = inr refl

  row_stays : {m : _} (r : Row_of-Inst m) (d : ℕ) → Stays (Within d) (run (Some (Within d)) (row_lines r))
  row_stays end_of-Inst d = inr refl
  row_stays (more_of-Inst i rest) d =
      subst (Stays (Within d)) (sym (run_append (inst_lines i) (Some (Within d)) (row_lines rest))) (stays_then (Within d) (run (Some (Within d)) (inst_lines i)) (row_lines rest) (tree_stays i d) (row_stays rest d))

pub trees_stay : (is : List Inst) (d : ℕ) → Stays (Within d) (run (Some (Within d)) (insts_lines is))
trees_stay [] d = inr refl
trees_stay (i ∷ is) d =
    subst (Stays (Within d)) (sym (run_append (inst_lines i) (Some (Within d)) (insts_lines is))) (stays_then (Within d) (run (Some (Within d)) (inst_lines i)) (insts_lines is) (tree_stays i d) (trees_stay is d))

-- what leads somewhere doesn't lead nowhere
pub stays_there : (p : Place) (o : Option Place) (ls : List Line) (q : Place) → Stays p o → run o ls ≡ Some q → o ≡ Some p
stays_there p o ls q (inl e) h = let clash : None ≡ Some q = sym (ap (λ r. run r ls) e) ∙ h in absurd cc
stays_there p o ls q (inr e) h = e

-- ---- registers change no line's class

assigned_vector_class : (v : VecInst) (s : List Reg) → class (vector_line (assigned_vector v s).0) ≡ class (vector_line v)
assigned_vector_class v s = vector_class (assigned_vector v s).0 ∙ sym (vector_class v)

portion_class : (p : Portion) (s : List Reg) → class (portion_line (portion_at p s).0) ≡ class (portion_line p)
portion_class (plain (I.Vector v)) s = assigned_vector_class v s
portion_class p s = refl

pub assigned_run : (ps : List Portion) (s : List Reg) (o : Option Place) → run o (map portion_line (assigned_portions ps s).0) ≡ run o (map portion_line ps)
assigned_run (p ∷ ps) s (Some q) =
    ap (λ c. run (next_place q c) (map portion_line (assigned_portions ps (portion_at p s).1).0)) (portion_class p s) ∙ assigned_run ps (portion_at p s).1 (next_place q (class (portion_line p)))
assigned_run ps s o = refl
