use Rattle.std.proofs.Common.{length}
use Rattle.s390x_job_bundle.proofs.Cutting.{Scanned}
use Rattle.s390x_job_bundle.proofs.cut.job_size.Given as goal

abbrev pub invariant-loop-rest : goal.invariant-loop-rest
invariant-loop-rest l = Scanned l.bytes l.rest

abbrev pub decreases-loop-rest : goal.decreases-loop-rest
decreases-loop-rest l = length l.rest
