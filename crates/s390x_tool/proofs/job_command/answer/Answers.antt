use Rattle.s390x_tool.proofs.Answering.{answer_of_job}
use Rattle.s390x_tool.proofs.job_command.answer.Goals as goal

pub returns-in-Ok : goal.returns-in-Ok
returns-in-Ok c =
    let told = rw c.deref.ensures.value at c.in-Ok.ensures in
    answer_of_job c.args.command c.args.input.items _ _ c.in-Ok.job told.job.0 told.job.1 told.one c.reply_to_job.ensures
