use Rattle.std.proofs.Common.{◌++◌, ◌∷◌, [], refl, ap, ◌∙◌, arith, string_bytes}
use Rattle.s390x_job.specs.Items.{block_line}
use Rattle.s390x_job.specs.Jobs.{insts_lines, blocks_lines, lines_text}
use Rattle.s390x_job.proofs.Texts.{more_lines, two_texts}
use Rattle.s390x_job.proofs.jobs.put_blocks.Goals as goal

pub loop-b-preserved : goal.loop-b-preserved
loop-b-preserved c =
    let s = c.deref.result.now in
    let e = two_texts (block_line ∷ []) (insts_lines s) _ _ _ c.in_ok-put_name_line.ensures c.in_ok-put_insts.ensures in
    more_lines blocks_lines (λ b. block_line ∷ insts_lines b.insts.items) (λ x xs. refl) c.args.bs.now c.loop-b.b-index c.b-item.result _ _ _ (omega arith) c.b-item.is (e ∙ ap (λ t. string_bytes c.loop-b.out ++ lines_text (block_line ∷ insts_lines t)) c.deref.ensures.value) c.loop-b.invariant
