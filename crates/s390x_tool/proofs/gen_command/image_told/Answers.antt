use Rattle.s390x_emit_int.specs.FunctionImage.{HasNoImage, IsImageOf}
use Rattle.s390x_emit_int.specs.declared.image.ImageError.TheVariants.{Refused, Link}
use Rattle.s390x_tool.specs.Generated.{generated_base}
use Rattle.s390x_tool.proofs.Generating.{by_default, reply_of_generated, reply_of_link_refusal, reply_of_refusal}
use Rattle.s390x_tool.proofs.gen_command.image_told.Goals as goal

pub returns-in-Ok : goal.returns-in-Ok
returns-in-Ok c =
    let f = c.args.function.now in
    let bytes = c.in-Ok.image.bytes.items in
    let image = by_default (λ a b t. IsImageOf a b f generated_base t bytes) _ _ _ _ c.new-info.ensures c.default.ensures c.default-2.ensures c.new-symbols.ensures.empty c.in-Ok.ensures.image in
    reply_of_generated c.args.count c.args.start f bytes _ _ c.requires.generated image (rw c.deref.ensures.value at c.summary.ensures)

pub returns-in-Err-Refused : goal.returns-in-Err-Refused
returns-in-Err-Refused c =
    let f = c.args.function.now in
    let law = c.generated_functions_are_valid.ensures in
    let error = c.in-Err-Refused.error in
    let cause = rw c.in-Err-Refused.field-0-is at c.in-Err-Refused.ensures.refused in
    let none = by_default (λ a b t. HasNoImage a b f generated_base t (Refused error)) _ _ _ _ c.new-info.ensures c.default.ensures c.default-2.ensures c.new-symbols.ensures.empty cause in
    reply_of_refusal law.count law.valid law.size c.args.count c.args.start f error _ _ c.requires.few c.requires.generated none (rw c.in-Err-Refused.field-0-is at c.refusal_reply.ensures)

pub returns : goal.returns
returns c =
    let f = c.args.function.now in
    let law = c.generated_functions_are_valid.ensures in
    let error = c.in-Err-Link.error in
    let cause = rw c.in-Err-Link.field-0-is at c.in-Err-Link.ensures.refused in
    let none = by_default (λ a b t. HasNoImage a b f generated_base t (Link error)) _ _ _ _ c.new-info.ensures c.default.ensures c.default-2.ensures c.new-symbols.ensures.empty cause in
    reply_of_link_refusal law.relocs c.args.count c.args.start f error _ _ c.requires.generated none (rw c.in-Err-Link.field-0-is at c.link_refused.ensures)
