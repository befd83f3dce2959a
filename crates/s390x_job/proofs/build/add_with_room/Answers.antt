use Rattle.s390x_job.proofs.Told.{next_of_same}
use Rattle.s390x_job.proofs.build.add_with_room.Goals as goal

pub returns : goal.returns
returns c =
    next_of_same c.args.b.now _ c.args.x c.add.new.b c.in_ok-make_room.ensures.items c.add.ensures
