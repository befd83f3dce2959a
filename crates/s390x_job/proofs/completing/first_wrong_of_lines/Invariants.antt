use Rattle.std.proofs.Common.{ℕ, ◌<◌, ◌≤◌, length, map, take}
use Rattle.s390x_job.proofs.completing.first_wrong_of_lines.Given as goal

abbrev pub invariant-loop-k : goal.invariant-loop-k
invariant-loop-k g l =
    (l.k ≤ length l.ws) × ((m : ℕ) → l.k < m → m ≤ length l.ws → g.T.Completes.IsWhole (g.T.Completes.completed (take m (map (λ w. w.now) l.ws))) → ⊥)

abbrev pub decreases-loop-k : goal.decreases-loop-k
decreases-loop-k g l = l.k
