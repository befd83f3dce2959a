use Rattle.std.proofs.Common.{[], refl}
use Rattle.s390x_schedule.specs.Schedule.{view}
use Rattle.s390x_schedule.proofs.Views.{sees}
use Rattle.s390x_schedule.proofs.law.others_store_as_writes.Goals as goal

pub returns : goal.returns
returns c = λ image p w ps ticks scheduled out. sees image p w (view w p) [] refl tt ps ticks scheduled out
