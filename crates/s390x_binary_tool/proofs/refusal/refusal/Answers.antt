use Rattle.s390x_binary_tool.proofs.Answering.{refusal_answer}
use Rattle.s390x_binary_tool.proofs.refusal.refusal.Goals as goal

pub returns-in-Ok : goal.returns-in-Ok
returns-in-Ok c = refusal_answer c.args.input.now c.in-Ok.job _ _ c.in-Ok.ensures.job.0 c.in-Ok.ensures.job.1 c.in-Ok.ensures.one c.refusal_of_job.ensures
