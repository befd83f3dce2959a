use Rattle.s390x_job_exact.proofs.EmptySet.{empty}
use Rattle.s390x_job_exact.proofs.cursor.ExactCursor.empty_set.Goals as goal

pub returns : goal.returns
returns c = empty c.empty.result _ _ c.empty.ensures c.in_ok-text.ensures
