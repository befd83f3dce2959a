use Rattle.std.proofs.Common.{length}
use Rattle.s390x_job_bundle.proofs.Stopping.{Taking}
use Rattle.s390x_job_bundle.proofs.find.take_functions.Given as goal

abbrev pub invariant-loop-alloc : goal.invariant-loop-alloc
invariant-loop-alloc g l = Taking g.S.FunctionSink.HasTaken l.bytes l.sink l.rest

abbrev pub decreases-loop-alloc : goal.decreases-loop-alloc
decreases-loop-alloc g l = length l.rest
