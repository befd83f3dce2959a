use Rattle.s390x_job_plan.proofs.Plans.{misplaced_at, told_at, unfinished_at, unread_at}
use Rattle.s390x_job_plan.proofs.find.find_plan.Goals as goal

pub returns-in_default : goal.returns-in_default
returns-in_default c = unread_at c.args.lines.now c.loop-n.n _ c.loop-n-test.true (rw c.in_default.is at c.in_ok-line.ensures)

pub returns-in-None : goal.returns-in-None
returns-in-None c =
    let read = rw c.in-Some.is at c.in_ok-line.ensures in
    misplaced_at c.args.lines.now c.loop-n.n _ c.loop-n.progress c.in-Some.line c.loop-n-test.true c.loop-n.invariant read (rw c.in-None.is at c.in_ok-follow.ensures)

pub loop-n-preserved : goal.loop-n-preserved
loop-n-preserved c =
    let read = rw c.in-Some.is at c.in_ok-line.ensures in
    told_at c.args.lines.now c.loop-n.n _ c.loop-n.progress c.in-Some-2.more c.in-Some.line c.loop-n-test.true c.loop-n.invariant read (rw c.in-Some-2.is at c.in_ok-follow.ensures)

pub returns : goal.returns
returns c = unfinished_at c.args.lines.now c.loop-n.n c.loop-n.progress c.loop-n-test.false c.loop-n.invariant c.in_default-progress.not-Done
