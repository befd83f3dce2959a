use Rattle.std.proofs.Common.{◌≡◌, ◌+◌, ◌≤◌, length}
use Rattle.s390x_job.specs.Completions.{pieces}
use Rattle.s390x_job_bundle.proofs.cut.count_lines.Given as goal

abbrev pub invariant-loop-rest : goal.invariant-loop-rest
invariant-loop-rest l =
    (l.count + length (pieces l.rest) ≡ length (pieces l.bytes)) × (l.count + length l.rest ≤ length l.bytes)

abbrev pub decreases-loop-rest : goal.decreases-loop-rest
decreases-loop-rest l = length l.rest
