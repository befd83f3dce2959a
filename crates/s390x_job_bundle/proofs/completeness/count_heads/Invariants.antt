use Rattle.std.proofs.Common.{◌≡◌, ◌+◌, ◌≤◌, drop, map}
use Rattle.s390x_job_bundle.specs.Completions.{heads}
use Rattle.s390x_job_bundle.proofs.completeness.count_heads.Given as goal

abbrev pub invariant-loop-w : goal.invariant-loop-w
invariant-loop-w l =
    (l.n ≤ l.w-index) × (l.n + heads (map (λ w. w.now) (drop l.w-index l.ws)) ≡ heads (map (λ w. w.now) l.ws))
