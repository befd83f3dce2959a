use Rattle.s390x_execution.proofs.Executing.{no_row_at, stopped_at}
use Rattle.s390x_execution.proofs.execution.step_end.Goals as goal

pub returns-in-Stopped : goal.returns-in-Stopped
returns-in-Stopped g c = stopped_at _ c.in-Stopped.kind c.in-Stopped.place _ c.in-Stopped.ensures

pub returns-in-NoRow : goal.returns-in-NoRow
returns-in-NoRow g c = no_row_at _ _ c.in-NoRow.ensures
