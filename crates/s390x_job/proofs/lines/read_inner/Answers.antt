use Rattle.s390x_job.proofs.lines.read_inner.Goals as goal

pub first_wrong-requires-clause-stuck : goal.first_wrong-requires-clause-stuck
first_wrong-requires-clause-stuck c = rw c.in-Stuck.is at c.in_ok-j.ensures

pub returns-in_ok-line-in-Stuck : goal.returns-in_ok-line-in-Stuck
returns-in_ok-line-in-Stuck c =
    let f = rw c.in-Stuck.is at c.in_ok-j.ensures in
    (λ j is_job text. f.none (j, is_job, text), c.in_ok-line-in-Stuck.ensures)
