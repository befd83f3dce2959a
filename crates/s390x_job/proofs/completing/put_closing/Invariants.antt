use Rattle.std.proofs.Common.{◌≡◌, ◌++◌}
use Rattle.s390x_job.specs.Completions.{closing}
use Rattle.s390x_job.proofs.completing.put_closing.Given as goal

abbrev pub invariant-loop-k : goal.invariant-loop-k
invariant-loop-k l = l.out.items ++ closing l.k ≡ l.initial.out.items ++ closing l.n

abbrev pub decreases-loop-k : goal.decreases-loop-k
decreases-loop-k l = l.k
