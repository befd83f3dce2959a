use Rattle.std.proofs.Common.{sym, ap, ◌∙◌}
use Rattle.s390x_job.specs.Grammar.{may_follow}
use Rattle.s390x_job.specs.Builds.{rank_of}
use Rattle.s390x_job.proofs.Beginnings.{begun, symbol_next}
use Rattle.s390x_job.proofs.build.head_symbol.Goals as goal

pub returns : goal.returns
returns c =
    let f = ap (may_follow (rank_of c.args.stage) c.args.bound 3) (sym c.from-number.ensures) ∙ sym c.may_stand.ensures ∙ c.if-not-may_stand.false in
    rw c.from-number.ensures (begun (rank_of c.args.stage) c.args.bound c.args.b.now c.requires (symbol_next (rank_of c.args.stage) c.args.bound c.args.b.now.beginning c.requires.beginning c.args.symbol c.push.new.self f c.in_ok-push.ensures.items))
