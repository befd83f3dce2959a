use Rattle.std.proofs.Common.{refl}
use Rattle.s390x_job.proofs.lines.JobTextCompletes.is_whole.Goals as goal
use Rattle.s390x_job.proofs.lines.JobTextCompletes.is_whole.Goals.{in-Whole, in-Stuck}

pub returns : goal.returns
returns c =
    elim c.match-branch-2.branch [
      | in-Whole w ↦ let h = rw w.in-Whole.is at c.in_ok-find_job.ensures in rw w.result-is (λ _. (w.in-Whole.field-0, h.0, h.1), λ _. refl)
      | in-Stuck w ↦ let h = rw w.in-Stuck.is at c.in_ok-find_job.ensures in rw w.result-is (λ e. absurd (cc), λ t. absurd (h.none t))
    ]
