use Rattle.s390x_job.specs.Builds.{lines_at, place_at}
use Rattle.s390x_job.specs.Items.{item_line}
use Rattle.s390x_job.proofs.Told.{reads_all}
use Rattle.s390x_job.proofs.lines.read_part.Goals as goal

pub returns-in-None : goal.returns-in-None
returns-in-None c =
    let f = rw c.in-None.is at c.in_ok-read_item.ensures in
    λ l ok e. absurd (f l ok e)

pub returns-in-Some : goal.returns-in-Some
returns-in-Some c =
    let f = rw c.in-Some.is at c.in_ok-read_item.ensures in
    reads_all c.push.new.b (lines_at c.args.progress c.args.b.now) (place_at c.args.progress c.args.b.now) (item_line c.in-Some.i) c.args.w.now f.1 f.2 c.push.result c.push.ensures
