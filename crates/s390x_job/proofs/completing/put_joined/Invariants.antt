use Rattle.std.proofs.Common.{◌≡◌, ◌++◌, drop, map}
use Rattle.s390x_job.specs.Completions.{text_of_lines}
use Rattle.s390x_job.proofs.completing.put_joined.Given as goal

abbrev pub invariant-loop-w : goal.invariant-loop-w
invariant-loop-w l =
    l.out.items ++ text_of_lines (map (λ w. w.now) (drop l.w-index l.ws)) ≡ l.initial.out.items ++ text_of_lines (map (λ w. w.now) l.ws)
