use Rattle.std.proofs.Common.{arith}
use Rattle.s390x_tool.proofs.Answering.{linked_fits, run_reply_of_link_cause, run_reply_of_text}
use Rattle.s390x_tool.proofs.job_command.run_reply.Goals as goal

pub returns-in-Ok : goal.returns-in-Ok
returns-in-Ok c =
    let told = rw c.in-Ok.ensures.base at c.run_text.ensures in
    run_reply_of_text c.args.base c.args.steps c.args.job.now c.args.code.now c.in-Ok.image.bytes.items c.run_text.result _ _ c.requires.code c.in-Ok.ensures.linked told c.with_text.ensures

pub returns-in-Err : goal.returns-in-Err
returns-in-Err c =
    run_reply_of_link_cause c.args.base c.args.steps c.args.job.now c.args.code.now c.in-Err.error _ _ c.requires.code c.in-Err.ensures.refused c.link_refused.ensures

pub run_text-requires-clause-image : goal.run_text-requires-clause-image
run_text-requires-clause-image c =
    let low = linked_fits c.args.base c.args.job.now c.args.code.now c.in-Ok.image.bytes.items c.in-Ok.ensures.linked c.in-Ok.ensures.size in
    omega (arith, low, c.in-Ok.ensures.base)
