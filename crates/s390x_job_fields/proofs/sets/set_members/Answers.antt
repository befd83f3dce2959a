use Rattle.std.proofs.Common.{rules}
use Rattle.s390x_job_fields.specs.Sets.{members_of}
use Rattle.s390x_job_fields.proofs.sets.set_members.Goals as goal

pub returns : goal.returns
unfolding members_of
returns c = search rules
