use Rattle.std.proofs.Common.{◌≡◌, drop, map, false}
use Rattle.s390x_job.specs.Completions.{ends_job}
use Rattle.s390x_job.proofs.lines.last_is_end.Given as goal

abbrev pub invariant-loop-w : goal.invariant-loop-w
invariant-loop-w l = ends_job l.b (map (λ w. w.now) (drop l.w-index l.ws)) ≡ ends_job false (map (λ w. w.now) l.ws)
