use Rattle.std.proofs.Common.{◌≡◌}
use Rattle.std.specs.Prelude.{not}
use Rattle.s390x_base.specs.Registers.{vector}
use Rattle.s390x_base.specs.Sets.{has}
use Rattle.s390x_job_fields.specs.Sets.{members_below}
use Rattle.s390x_listing.specs.Members.{no_member}
use Rattle.s390x_listing.proofs.members.has_vector.Given as goal

abbrev pub invariant-loop-n : goal.invariant-loop-n
invariant-loop-n l = l.found ≡ not (no_member (members_below vector (has l.set) l.n))
