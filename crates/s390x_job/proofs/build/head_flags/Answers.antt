use Rattle.std.proofs.Common.{sym, ◌∙◌}
use Rattle.s390x_job.specs.Builds.{rank_of}
use Rattle.s390x_job.proofs.Beginnings.{begun, flags_next}
use Rattle.s390x_job.proofs.build.head_flags.Goals as goal

pub returns : goal.returns
returns c =
    begun (rank_of c.args.stage) c.args.bound c.args.b.now c.requires (flags_next (rank_of c.args.stage) c.args.bound c.args.b.now.beginning c.requires.beginning c.args.flags (sym c.may_stand.ensures ∙ c.if-not-may_stand.false) (sym c.in_ok-is_plain_flags.ensures ∙ c.if-branch.false))
