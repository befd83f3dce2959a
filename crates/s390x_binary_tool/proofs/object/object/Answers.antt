use Rattle.s390x_binary_tool.proofs.Objects.{object_answer}
use Rattle.s390x_binary_tool.proofs.object.object.Goals as goal

pub returns-in-Ok : goal.returns-in-Ok
returns-in-Ok c = object_answer c.args.name.now c.args.input.now c.in-Ok.job _ _ c.in-Ok.ensures.job.0 c.in-Ok.ensures.job.1 c.in-Ok.ensures.one c.object_of_job.ensures
