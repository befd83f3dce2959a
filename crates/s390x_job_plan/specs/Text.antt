-- The text of a planned job: a job, a line `plan`, the lines of each block's plan, and a line `close`.
use Rattle.std.specs.Prelude.{◌≡◌, ℕ, List, [], ◌∷◌, ◌++◌, map}
use Rattle.s390x_job.specs.Completions.{text_of_lines}
use Rattle.s390x_job.specs.Jobs.{IsJob, text_of_job}
use Rattle.s390x_job.specs.Same.{SameJob}
use Rattle.s390x_alloc.specs.declared.plan.BlockPlan.{BlockPlan}
use Rattle.s390x_alloc.specs.declared.plan.Edit.{Edit}
use Rattle.s390x_alloc.specs.declared.plan.Edit.TheVariants.{Move, Step}
use Rattle.s390x_alloc.specs.declared.plan.EntryPair.{EntryPair}
use Rattle.s390x_job_plan.specs.Lines.{Closing, Heading, Held, IsLine, Moving, Opening, PlanLine, Stepping, line_text}
use Rattle.s390x_job_plan.specs.declared.planned_job.PlannedJob.{PlannedJob}

abbrev pub pair_line : EntryPair → PlanLine
pair_line p = Held p.place p.vreg

abbrev pub edit_line : Edit → PlanLine
edit_line (Move to from) = Moving to from
edit_line (Step regs) = Stepping regs.items

-- a line `block`, the pairs with which it begins, and its edits in order
abbrev pub block_lines : List EntryPair → List Edit → List PlanLine
block_lines pairs edits = Opening ∷ (map pair_line pairs ++ map edit_line edits)

abbrev pub blocks_lines : List BlockPlan → List PlanLine
blocks_lines [] = []
blocks_lines (b ∷ bs) = block_lines b.entry.items b.edits.items ++ blocks_lines bs

-- the lines of a plan
abbrev pub plan_lines : List BlockPlan → List PlanLine
plan_lines bs = Heading ∷ (blocks_lines bs ++ Closing ∷ [])

abbrev pub AllLines : List PlanLine → Type 0
AllLines [] = Unit {0}
AllLines (l ∷ ls) = IsLine l × AllLines ls

abbrev pub text_of_planned : PlannedJob → List ℕ
text_of_planned p = text_of_job p.job ++ text_of_lines (map line_text (plan_lines p.plan.blocks.items))

-- the job keeps the order and the limits of jobs, and each place and register of the plan lies in its range
abbrev pub IsPlanned : PlannedJob → Type 0
IsPlanned p = IsJob p.job × AllLines (plan_lines p.plan.blocks.items)

-- the same job and the same plan: by their lines, each with its places and registers
abbrev pub SamePlanned : PlannedJob → PlannedJob → Type 0
SamePlanned p q = SameJob p.job q.job × (plan_lines p.plan.blocks.items ≡ plan_lines q.plan.blocks.items)

-- the bytes are the text of this job with this plan, and of no other
pub record IsPlannedOf (bytes : List ℕ) (p : PlannedJob) : Type 0 where
  pub is : IsPlanned p
  pub spelled : text_of_planned p ≡ bytes
  pub one : (q : PlannedJob) → IsPlanned q → text_of_planned q ≡ bytes → SamePlanned p q
