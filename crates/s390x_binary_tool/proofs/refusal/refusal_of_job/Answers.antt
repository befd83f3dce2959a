use Rattle.s390x_binary_tool.proofs.Answering.{refusal_placed}
use Rattle.s390x_binary_tool.proofs.refusal.refusal_of_job.Goals as goal

pub returns-in-Ok-Some : goal.returns-in-Ok-Some
returns-in-Ok-Some c =
    refusal_placed c.args.job.now c.in-Ok-Some.refusal _ _ (rw c.in-Ok-Some.field-0-is at c.in-Ok-Some.ensures) c.refusal_with_place.ensures
