use Rattle.s390x_binary_tool.proofs.Answering.{list_answer}
use Rattle.s390x_binary_tool.proofs.list.list.Goals as goal

pub returns-in-Ok : goal.returns-in-Ok
returns-in-Ok c = list_answer c.args.base c.args.input.now c.in-Ok.job _ _ c.in-Ok.ensures.job.0 c.in-Ok.ensures.job.1 c.in-Ok.ensures.one c.list_of_job.ensures
