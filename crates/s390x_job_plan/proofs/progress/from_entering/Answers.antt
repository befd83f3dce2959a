use Rattle.s390x_job_plan.proofs.Plans.{no_edits}
use Rattle.s390x_job_plan.proofs.progress.from_entering.Goals as goal

pub returns-in_ok-more-in_default : goal.returns-in_ok-more-in_default
returns-in_ok-more-in_default c = no_edits c.args.blocks c.args.entry c.new-edits.result c.args.line c.in_ok-more-in_default.more c.new-edits.ensures.items c.in_default.not-Entry c.in_ok-more-in_default.ensures
