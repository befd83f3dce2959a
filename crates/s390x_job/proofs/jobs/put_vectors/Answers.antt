use Rattle.std.proofs.Common.{get_or, refl, arith}
use Rattle.s390x_base.specs.Registers.{vector}
use Rattle.s390x_job.proofs.Texts.{starts_more}
use Rattle.s390x_job.proofs.jobs.put_vectors.Goals as goal

pub loop-n-preserved : goal.loop-n-preserved
loop-n-preserved c =
    let vs = c.args.values.now in
    starts_more vector vs c.loop-n.n (get_or vs c.loop-n.n 0) _ _ _ (omega arith) refl c.in_ok-put_vector.ensures c.loop-n.invariant
