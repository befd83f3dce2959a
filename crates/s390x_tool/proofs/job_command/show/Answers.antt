use Rattle.s390x_tool.proofs.Showing.{all_told}
use Rattle.s390x_tool.proofs.job_command.show.Goals as goal

pub texts-requires-clause-valid : goal.texts-requires-clause-valid
texts-requires-clause-valid c = c.in-Ok.ensures.0

pub texts-requires-clause-told : goal.texts-requires-clause-told
texts-requires-clause-told c = all_told c.valid_blocks_have_texts.ensures.in_order c.args.job.now c.in-Ok.ensures.0
