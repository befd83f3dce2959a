use Rattle.s390x_job.proofs.First.{first_at, first_nowhere}
use Rattle.s390x_job.proofs.split.before.Goals as goal

pub returns-in-Some : goal.returns-in-Some
returns-in-Some c =
    let e = c.in-Some.ensures in
    first_at c.args.c c.args.s.now c.in-Some.at e.0.high e.0.before e.1

pub returns-in-None : goal.returns-in-None
returns-in-None c = first_nowhere c.args.c c.args.s.now c.in-None.ensures
