use Rattle.std.proofs.Common.{◌≡◌, ◌++◌, length, map}
use Rattle.s390x_job.specs.Completions.{pieces}
use Rattle.s390x_job.proofs.completing.split_lines.Given as goal

abbrev pub invariant-loop-rest : goal.invariant-loop-rest
invariant-loop-rest l = map (λ w. w.now) l.v.items ++ pieces l.rest ≡ pieces l.bytes

abbrev pub decreases-loop-rest : goal.decreases-loop-rest
decreases-loop-rest l = length l.rest
