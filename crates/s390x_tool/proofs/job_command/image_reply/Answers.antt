use Rattle.std.proofs.Common.{◌∙◌}
use Rattle.s390x_tool.proofs.Answering.{reply_of_image, reply_of_link_cause}
use Rattle.s390x_tool.proofs.job_command.image_reply.Goals as goal

pub returns-in-Ok : goal.returns-in-Ok
returns-in-Ok c =
    let image = c.in-Ok.ensures.linked in
    reply_of_image c.args.base c.args.job.now c.deref.result.now _ _ c.linked_code_runs_as_typed.ensures
    (record { code = c.args.code.now; is = c.requires; linked = image.linked; filled = c.deref.ensures.value ∙ image.filled })
    c.in_hex.ensures

pub returns-in-Err : goal.returns-in-Err
returns-in-Err c =
    reply_of_link_cause c.args.base c.args.job.now c.args.code.now c.in-Err.error _ _ c.requires c.in-Err.ensures.refused c.link_refused.ensures
