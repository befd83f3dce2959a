use Rattle.std.proofs.Common.{◌++◌, ◌∷◌, [], ap, ◌∙◌, string_bytes}
use Rattle.s390x_job.specs.Items.{end_line}
use Rattle.s390x_job.specs.Jobs.{lines_text, head_lines, blocks_lines}
use Rattle.s390x_job.proofs.Texts.{three_texts}
use Rattle.s390x_job.proofs.jobs.print_job.Goals as goal

pub returns : goal.returns
returns c =
    let j = c.args.job.now in
    let hs = head_lines j.info.isa_flags j.conv j.state.layout j.function.constants.items j.symbols.items j.registers j.memory.items in
    three_texts hs (blocks_lines j.function.blocks.items) (end_line ∷ []) [] _ _ _ (c.in_ok-put_head.ensures ∙ ap (λ t. t ++ lines_text hs) c.new-out.ensures.bytes) (c.in_ok-put_blocks.ensures ∙ ap (λ bs. string_bytes c.put_head.new.out ++ lines_text (blocks_lines bs)) c.deref.ensures.value) c.in_ok-put_name_line.ensures
