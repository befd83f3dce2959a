-- Functions of a text as members.
use Rattle.s390x_job_bundle.specs.declared.named_job.NamedJob.{NamedJob}
use Rattle.s390x_bundle.specs.declared.member.Member.{Member}

-- a function of the text as a member: what its job says of registers and memory means nothing there
abbrev pub member_of : NamedJob → Member
member_of f = record { name = f.name; function = f.job.function; info = f.job.info; state = f.job.state; symbols = f.job.symbols }
