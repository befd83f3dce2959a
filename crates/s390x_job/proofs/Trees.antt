-- The lines of loops, by their members.
use Rattle.std.proofs.Common.{◌≡◌, ℕ, List, [], ◌∷◌, ◌++◌, refl, sym, ap, ◌∙◌, subst}
use Rattle.std.proofs.Common.{Vec, Global}
use Rattle.s390x_job_lines.specs.Instructions.{inst_line}
use Rattle.s390x_job.specs.Items.{loop_line, close_line}
use Rattle.s390x_job.specs.Jobs.{inst_lines, row_lines, insts_lines}
use Rattle.s390x_inst.specs.declared.inst.Inst.{Inst, Row_of-Inst, end_of-Inst, more_of-Inst, items-the_row-Inst, items_hidden-the_row-Inst-0, out-Inst, roll-Inst, roll-out-Inst}
use Rattle.s390x_inst.specs.declared.inst.Inst.TheBlock.{hidden-the_row-Inst-0}
use Rattle.s390x_inst.specs.declared.inst.Inst.TheOpen as O
use Rattle.s390x_inst.specs.declared.inst.Inst.TheViews as V
use denote.Hole.Carrier

pub row-lines : {n : _} (k : Row_of-Inst n) → row_lines k ≡ insts_lines (items-the_row-Inst n k)
row-lines end_of-Inst = refl
row-lines (more_of-Inst i rest) = ap (λ t. inst_lines i ++ t) (row-lines rest)

pub loop_lines : (c : ℕ) (v : Vec Inst Global) → inst_lines (V.Loop c v) ≡ loop_line c ∷ (insts_lines v.items ++ close_line ∷ [])
loop_lines c v =
    ap (λ t. loop_line c ∷ (t ++ close_line ∷ [])) (row-lines (hidden-the_row-Inst-0 v) ∙ ap insts_lines (items_hidden-the_row-Inst-0 v))

plain_out : (x : O.Inst-F Inst) → ((c : ℕ) (v : Vec Inst Global) → x ≡ O.Loop c v → ⊥) → inst_lines (roll-Inst x) ≡ inst_line (roll-Inst x) ∷ []
unfolding roll-Inst Carrier.roll
plain_out (O.Loop c v) h = absurd (h c v refl)
plain_out x h = refl

pub plain_lines : (i : Inst) → ((c : ℕ) (v : Vec Inst Global) → i ≡ V.Loop c v → ⊥) → inst_lines i ≡ inst_line i ∷ []
plain_lines i h =
    subst (λ j. inst_lines j ≡ inst_line j ∷ []) (roll-out-Inst i) (plain_out (out-Inst i) (λ c v e. h c v (sym (roll-out-Inst i) ∙ ap roll-Inst e ∙ V.rolls-Loop c v)))

pub loop_whole : (i : Inst) (c : ℕ) (v : Vec Inst Global) (s : List Inst) → i ≡ V.Loop c v → s ≡ v.items → inst_lines i ≡ (inst_line i ∷ []) ++ (insts_lines s ++ close_line ∷ [])
loop_whole i c v s e f =
    ap inst_lines e
    ∙ loop_lines c v
    ∙ ap (λ l. l ∷ (insts_lines v.items ++ close_line ∷ [])) (sym (ap inst_line e))
    ∙ ap (λ t. inst_line i ∷ (insts_lines t ++ close_line ∷ [])) (sym f)
