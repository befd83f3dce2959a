use Rattle.std.proofs.Common.{◌≡◌, ◌+◌, ◌≤◌, drop, map}
use Rattle.s390x_job_bundle.specs.Completions.{ends}
use Rattle.s390x_job_bundle.proofs.completeness.count_ends.Given as goal

abbrev pub invariant-loop-w : goal.invariant-loop-w
invariant-loop-w l =
    (l.n ≤ l.w-index) × (l.n + ends (map (λ w. w.now) (drop l.w-index l.ws)) ≡ ends (map (λ w. w.now) l.ws))
