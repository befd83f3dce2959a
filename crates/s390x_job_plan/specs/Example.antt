-- Texts of planned jobs, so that the definition of such texts isn't empty.
use Rattle.std.specs.Prelude.{◌≡◌, ℕ, List, [], ◌∷◌, codes}
use Rattle.s390x_job.specs.Completions.{text_of_lines}
use Rattle.s390x_job_plan.specs.Completions.{IsPlannedText}
use Rattle.s390x_job_plan.specs.Text.{IsPlanned, text_of_planned}
use Rattle.s390x_job_plan.specs.declared.planned_job.PlannedJob.{PlannedJob}

-- a text with each kind of line
abbrev pub some_lines : List (List ℕ)
some_lines = codes "end" ∷ codes "plan" ∷ codes "block" ∷ codes "entry %r2=%i0" ∷ codes "move s1 %r2" ∷ codes "step [%r3,%i0]" ∷ codes "close" ∷ []

-- these lines are the text of a planned job
abbrev pub SomeLinesAreText : Type 0
SomeLinesAreText = IsPlannedText (text_of_lines some_lines)

-- a text without blocks
abbrev pub no_blocks : List (List ℕ)
no_blocks = codes "end" ∷ codes "plan" ∷ codes "close" ∷ []

-- these lines are the text of a planned job, and each one whose text they are has no blocks
pub record NoBlocksAreText : Type 0 where
  pub planned : IsPlannedText (text_of_lines no_blocks)
  pub job_blocks : (p : PlannedJob) → IsPlanned p → text_of_planned p ≡ text_of_lines no_blocks → p.job.function.blocks.items ≡ []
  pub plan_blocks : (p : PlannedJob) → IsPlanned p → text_of_planned p ≡ text_of_lines no_blocks → p.plan.blocks.items ≡ []
