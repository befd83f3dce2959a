use Rattle.std.proofs.Common.{sym, ap, ◌∙◌}
use Rattle.s390x_job.specs.Grammar.{may_follow}
use Rattle.s390x_job.specs.Builds.{rank_of}
use Rattle.s390x_job.proofs.Beginnings.{begun, general_next, not_zero}
use Rattle.s390x_job.proofs.build.head_general.Goals as goal

pub returns : goal.returns
returns c =
    let f = ap (may_follow (rank_of c.args.stage) c.args.bound 4) (sym c.from-place.ensures) ∙ sym c.may_stand.ensures ∙ c.if-not-may_stand.false in
    rw c.from-place.ensures (begun (rank_of c.args.stage) c.args.bound c.args.b.now c.requires.beginning (general_next (rank_of c.args.stage) c.args.bound c.args.b.now.beginning c.requires.beginning.beginning c.args.start.number c.args.start.value c.requires.number (not_zero c.args.start.value c.if-start-eq0.false) f))
