use Rattle.std.proofs.Common.{map, take}
use Rattle.s390x_job_plan.proofs.Plans.{Told}
use Rattle.s390x_job_plan.proofs.find.find_plan.Given as goal

abbrev pub invariant-loop-n : goal.invariant-loop-n
invariant-loop-n l = Told (map (λ w. w.now) (take l.n l.lines)) l.progress
