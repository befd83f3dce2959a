use Rattle.s390x_job.proofs.lines.read_line.Goals as goal

pub returns-in-Inside : goal.returns-in-Inside
returns-in-Inside c = rw c.in-Inside.is c.read_inside.ensures
