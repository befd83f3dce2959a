use Rattle.s390x_binary_tool.proofs.Objects.{object_file, object_none}
use Rattle.s390x_binary_tool.proofs.object.object_of_code.Goals as goal

pub returns-in-Ok : goal.returns-in-Ok
returns-in-Ok c =
    let answer = c.in-Ok.ensures.answer in
    object_file c.args.name.now c.args.job.now c.args.code.now c.in-Ok.file.items _ _ c.requires answer.0 answer.1 c.in-Ok.ensures.linked c.with_file.ensures.status c.with_file.ensures.text

pub returns-in-Err : goal.returns-in-Err
returns-in-Err c = object_none c.args.name.now c.args.job.now c.args.code.now c.in-Err.error _ _ c.requires c.in-Err.ensures.answer c.object_refused.ensures
