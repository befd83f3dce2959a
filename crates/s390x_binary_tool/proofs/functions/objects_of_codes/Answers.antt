use Rattle.s390x_binary_tool.proofs.Joining.{objects_file, objects_none}
use Rattle.s390x_binary_tool.proofs.functions.objects_of_codes.Goals as goal

pub returns-in-Ok : goal.returns-in-Ok
returns-in-Ok c =
    let answer = c.in-Ok.ensures.answer in
    objects_file c.args.members.now c.args.objects.now c.in-Ok.file.items _ _ c.requires.names c.requires.are answer.0 answer.1 c.in-Ok.ensures.linked c.with_file.ensures.status c.with_file.ensures.text

pub returns-in-Err : goal.returns-in-Err
returns-in-Err c = objects_none c.args.members.now c.args.objects.now c.in-Err.error _ _ c.requires.names c.requires.are c.in-Err.ensures.answer c.object_refused.ensures
