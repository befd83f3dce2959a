use Rattle.std.proofs.Common.{◌<◌, length, refl, sym, subst}
use Rattle.s390x_job_plan.proofs.Sizes.{completion_size}
use Rattle.s390x_job_plan.proofs.reader.PlannedTextCompletes.is_whole.Goals as goal
use Rattle.s390x_job_plan.proofs.reader.PlannedTextCompletes.is_whole.Goals.{in-Whole, in-Stuck}

pub find_planned-requires : goal.find_planned-requires
find_planned-requires c = subst (λ t. length t < 4294967295) (sym c.requires.2) (completion_size c.requires.0 c.requires.1)

pub returns : goal.returns
returns c =
    elim c.match-branch-2.branch [
      | in-Whole w ↦ let h = rw w.in-Whole.is at c.in_ok-find_planned.ensures in rw w.result-is (λ _. (w.in-Whole.field-0, h.is, h.spelled), λ _. refl)
      | in-Stuck w ↦ let h = rw w.in-Stuck.is at c.in_ok-find_planned.ensures in rw w.result-is (λ e. absurd (cc), λ t. absurd (h.none t))
    ]
