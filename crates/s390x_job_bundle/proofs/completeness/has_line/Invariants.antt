use Rattle.std.proofs.Common.{◌≡◌, drop, map}
use Rattle.s390x_job_bundle.specs.Completions.{has_line}
use Rattle.s390x_job_bundle.proofs.completeness.has_line.Given as goal

abbrev pub invariant-loop-w : goal.invariant-loop-w
invariant-loop-w l = has_line l.line (map (λ w. w.now) (drop l.w-index l.ws)) ≡ has_line l.line (map (λ w. w.now) l.ws)
