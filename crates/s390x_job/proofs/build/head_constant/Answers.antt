use Rattle.std.proofs.Common.{sym, ◌∙◌}
use Rattle.s390x_job.specs.Builds.{rank_of}
use Rattle.s390x_job.proofs.Beginnings.{begun, constant_next}
use Rattle.s390x_job.proofs.build.head_constant.Goals as goal

pub returns : goal.returns
returns c =
    begun (rank_of c.args.stage) c.args.bound c.args.b.now c.requires (constant_next (rank_of c.args.stage) c.args.bound c.args.b.now.beginning c.requires.beginning c.args.constant c.push.new.self (sym c.may_stand.ensures ∙ c.if-not-may_stand.false) c.in_ok-push.ensures.items)
