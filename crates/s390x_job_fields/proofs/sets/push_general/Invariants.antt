use Rattle.std.proofs.Common.{◌≡◌, ◌++◌}
use Rattle.s390x_base.specs.Registers.{general}
use Rattle.s390x_base.specs.Sets.{has}
use Rattle.s390x_job_fields.specs.Sets.{members_below}
use Rattle.s390x_job_fields.proofs.sets.push_general.Given as goal

abbrev pub invariant-loop-n : goal.invariant-loop-n
invariant-loop-n l = l.v.items ≡ l.initial.v.items ++ members_below general (has l.set) l.n
