use Rattle.std.proofs.Common.{string_bytes, ◌++◌, ◌∷◌, [], refl, sym, ap, ◌∙◌, arith}
use Rattle.s390x_job_lines.specs.Instructions.{inst_line}
use Rattle.s390x_job.specs.Items.{close_line}
use Rattle.s390x_job.specs.Jobs.{inst_lines, insts_lines, lines_text}
use Rattle.s390x_job.proofs.Texts.{more_lines, three_texts}
use Rattle.s390x_job.proofs.Trees.{loop_whole, plain_lines}
use Rattle.s390x_job.proofs.jobs.+trees.Goals as goal

pub put_insts-loop-i-preserved : goal.put_insts-loop-i-preserved
put_insts-loop-i-preserved t c =
    more_lines insts_lines inst_lines (λ x xs. refl) c.args.is.now c.loop-i.i-index c.i-item.result _ _ _ (omega arith) c.i-item.is c.in_ok-put_tree.ensures c.loop-i.invariant

pub put_tree-returns-in_default : goal.put_tree-returns-in_default
put_tree-returns-in_default t c =
    let e = plain_lines c.args.i.now c.in_default.not-Loop in
    c.in_ok-put_one.ensures ∙ ap (λ ls. string_bytes c.args.out.now ++ lines_text ls) (sym e)

pub put_tree-returns-in_ok-put_name_line-in-Loop : goal.put_tree-returns-in_ok-put_name_line-in-Loop
put_tree-returns-in_ok-put_name_line-in-Loop t c =
    let s = c.deref.result.now in
    let e = loop_whole c.args.i.now c.in-Loop.cond c.in-Loop.body s c.in-Loop.is c.deref.ensures.value in
    three_texts (inst_line c.args.i.now ∷ []) (insts_lines s) (close_line ∷ []) _ _ _ _ c.in_ok-put_one.ensures c.in_ok-put_insts-in-Loop.ensures c.in_ok-put_name_line-in-Loop.ensures
    ∙ ap (λ ls. string_bytes c.args.out.now ++ lines_text ls) (sym e)
