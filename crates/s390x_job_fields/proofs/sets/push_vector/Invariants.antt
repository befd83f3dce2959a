use Rattle.std.proofs.Common.{◌≡◌, ◌++◌}
use Rattle.s390x_base.specs.Registers.{vector}
use Rattle.s390x_base.specs.Sets.{has}
use Rattle.s390x_job_fields.specs.Sets.{members_below}
use Rattle.s390x_job_fields.proofs.sets.push_vector.Given as goal

abbrev pub invariant-loop-n : goal.invariant-loop-n
invariant-loop-n l = l.v.items ≡ l.initial.v.items ++ members_below vector (has l.set) l.n
