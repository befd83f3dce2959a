use Rattle.std.proofs.Common.{◌≡◌, ◌+◌, ◌≤◌, drop, map}
use Rattle.s390x_job.specs.Completions.{closes}
use Rattle.s390x_job.proofs.completing.count_closes.Given as goal

abbrev pub invariant-loop-w : goal.invariant-loop-w
invariant-loop-w l =
    (l.n ≤ l.w-index) × (l.n + closes (map (λ w. w.now) (drop l.w-index l.ws)) ≡ closes (map (λ w. w.now) l.ws))
