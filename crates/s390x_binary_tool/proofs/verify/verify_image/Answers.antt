use Rattle.std.proofs.Common.{◌+◌, ◌++◌, refl, sym, subst}
use Rattle.std.specs.Prelude.{codes}
use Rattle.std.specs.Cow.{cow_slice_items}
use Rattle.std.specs.Fmt.{decimal}
use Rattle.std.proofs.lemmas.List.{length-take-le}
use Rattle.s390x_tool.specs.Lines.{IsMade, line}
use Rattle.s390x_tool.specs.declared.status.Status.TheVariants as status
use Rattle.s390x_binary_tool.specs.ImageText.{IsImageText, IsWrongLine}
use Rattle.s390x_binary_tool.specs.Verify.{IsVerifyReply}
use Rattle.s390x_binary_tool.proofs.Answering.{verify_image_syntax, verify_reply_answer}
use Rattle.s390x_binary_tool.proofs.Verifying.{all_behind}
use Rattle.s390x_binary_tool.proofs.verify.verify_image.Goals as goal

pub slice_bounds-count_lines-end : goal.slice_bounds-count_lines-end
slice_bounds-count_lines-end c = sym (length-take-le c.args.size c.args.input.now c.requires.within)

pub returns-in-Ok-Ok : goal.returns-in-Ok-Ok
returns-in-Ok-Ok c =
    let s = c.compare.result.status in
    let text = cow_slice_items c.compare.result.text in
    let image = c.in-Ok-Ok.image.items in
    let hex = subst (λ t. IsImageText t image) (all_behind c.args.size c.args.input.now) (rw c.in-Ok-Ok.field-0-is at c.in-Ok-Ok.ensures.lines) in
    verify_reply_answer c.args.base c.args.input.now c.args.size c.args.job.now image s text c.requires.cut hex (subst (λ given. IsVerifyReply c.args.base c.args.job.now given s text) c.deref.ensures.value c.compare.ensures)

pub returns-in-Ok-Err : goal.returns-in-Ok-Err
returns-in-Ok-Err c =
    let number = c.in-Ok-Err.number in
    let lines = c.count_lines.result in
    let wrong = subst (λ t. IsWrongLine t number) (all_behind c.args.size c.args.input.now) (rw c.in-Ok-Err.field-0-is at c.in-Ok-Err.ensures.lines) in
    verify_image_syntax c.args.base c.args.input.now c.args.size lines number (lines + number) c.args.job.now c.syntax.result.status _ _ c.requires.cut wrong c.count_lines.ensures.count refl
    (subst (λ t. IsMade status.Syntax (line (codes "syntax " ++ decimal (lines + number))) c.syntax.result.status t) (sym c.shared_reply.ensures.text) c.syntax.ensures) c.shared_reply.ensures.status
