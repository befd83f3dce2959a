use Rattle.s390x_tool.proofs.Answering.{operands_reply_of_cause}
use Rattle.s390x_tool.proofs.job_command.operands.Goals as goal

pub returns-in-Ok : goal.returns-in-Ok
returns-in-Ok c =
    let told = rw c.deref.ensures.value at c.in-Ok.ensures in
    record { valid = told.0; spelled = told.1 }

pub returns-in-Err : goal.returns-in-Err
returns-in-Err c =
    operands_reply_of_cause c.args.job.now c.in-Err.error _ _ (rw c.deref.ensures.value at c.in-Err.ensures) c.operands_refused.ensures
