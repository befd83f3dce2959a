use Rattle.s390x_job.proofs.build.push.Goals as goal

pub returns-in-Inside : goal.returns-in-Inside
returns-in-Inside c = rw c.in-Inside.is c.inside.ensures
