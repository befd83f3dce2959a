use Rattle.std.proofs.Common.{sym, ◌∙◌}
use Rattle.s390x_job.specs.Builds.{rank_of}
use Rattle.s390x_job.proofs.Beginnings.{begun, frame_next}
use Rattle.s390x_job.proofs.build.head_frame.Goals as goal

pub returns : goal.returns
returns c =
    begun (rank_of c.args.stage) c.args.bound c.args.b.now c.requires (frame_next (rank_of c.args.stage) c.args.bound c.args.b.now.beginning c.requires.beginning c.args.frame.conv c.args.frame.layout (sym c.may_stand.ensures ∙ c.if-not-may_stand.false) (sym c.in_ok-is_plain_frame.ensures ∙ c.if-branch.false))
