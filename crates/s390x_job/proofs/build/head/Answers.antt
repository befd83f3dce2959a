use Rattle.s390x_job.specs.Builds.{rank_of}
use Rattle.s390x_job.proofs.Beginnings.{block_next, end_next}
use Rattle.s390x_job.proofs.build.head.Goals as goal

pub returns-in-Frame : goal.returns-in-Frame
returns-in-Frame c = rw c.in-Frame.is c.head_frame.ensures

pub returns-in-Block : goal.returns-in-Block
returns-in-Block c = rw c.in-Block.is (block_next (rank_of c.args.stage) c.args.bound c.args.b.now c.requires.beginning)

pub returns-in-End : goal.returns-in-End
returns-in-End c = rw c.in-End.is (end_next (rank_of c.args.stage) c.args.bound c.args.b.now c.requires.beginning)
