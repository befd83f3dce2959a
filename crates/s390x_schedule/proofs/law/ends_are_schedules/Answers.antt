use Rattle.s390x_schedule.proofs.Going.{end_taken}
use Rattle.s390x_schedule.proofs.law.ends_are_schedules.Goals as goal

pub returns : goal.returns
returns c = end_taken
