use Rattle.s390x_tool.proofs.Answering.{reply_of_code}
use Rattle.s390x_tool.proofs.job_command.emit.Goals as goal

pub returns-in-Ok : goal.returns-in-Ok
returns-in-Ok c =
    let is = c.in-Ok.ensures in
    reply_of_code c.args.job.now c.in-Ok.code _ _ (record { valid = is.0; ranges = is.2; emitted = is.1 }) c.with_tables.ensures
