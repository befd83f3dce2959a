-- What the reader answers.
use Rattle.std.specs.Prelude.{◌≡◌, ℕ, ◌<◌, ◌≤◌, Option, Some, None, List, [], ◌∷◌, ◌++◌, take, length, map}
use Rattle.s390x_job.specs.Completions.{IsStuck, pieces}
use Rattle.s390x_alloc.specs.declared.plan.BlockPlan.{BlockPlan}
use Rattle.s390x_job_plan.specs.Completions.{IsFirstWrongOfPlanned, IsPlannedText, plan_completion}
use Rattle.s390x_job_plan.specs.Lines.{Closing, Heading, IsLine, Opening, PlanLine, line_text}
use Rattle.s390x_job_plan.specs.Text.{AllLines, IsPlannedOf, blocks_lines, block_lines, edit_line, pair_line, plan_lines}
use Rattle.s390x_job_plan.specs.declared.progress.Progress.{Progress}
use Rattle.s390x_job_plan.specs.declared.progress.Progress.TheVariants.{Start, Between, Entering, Editing, Done}
use Rattle.s390x_job_plan.specs.declared.error.PlanTextError.{PlanTextError}
use Rattle.s390x_job_plan.specs.declared.error.PlanTextError.TheVariants.{Syntax, NoMemory}
use Rattle.s390x_job_plan.specs.declared.find.ParseOutcome.{ParseOutcome}
use Rattle.s390x_job_plan.specs.declared.find.ParseOutcome.TheVariants as F
use Rattle.s390x_job_plan.specs.declared.find.PlanOutcome.{PlanOutcome}
use Rattle.s390x_job_plan.specs.declared.find.PlanOutcome.TheVariants as P
use Rattle.s390x_job_plan.specs.declared.line.Line.{Line}
use Rattle.s390x_job_plan.specs.declared.line.Line.TheVariants as L
use Rattle.s390x_job_plan.specs.Order.{Stage, AtStart, Ahead, InEntry, InEdits, AtEnd, next_stage}

-- what a line says
abbrev pub line_value : Line → PlanLine
line_value L.Plan = Heading
line_value L.Block = Opening
line_value (L.Entry p) = pair_line p
line_value (L.Edit e) = edit_line e
line_value L.Close = Closing

-- the line of a plan that this is; none where it is no line of a plan
abbrev pub IsRead : List ℕ → Option Line → Type 0
IsRead w None = (l : PlanLine) → IsLine l → line_text l ≡ w → ⊥
IsRead w (Some l) = IsLine (line_value l) × (line_text (line_value l) ≡ w)

-- the lines that a plan has had so far
abbrev pub told_lines : Progress → List PlanLine
told_lines Start = []
told_lines Between = Heading ∷ []
told_lines (Entering blocks entry) = Heading ∷ (blocks_lines blocks.items ++ block_lines entry.items [])
told_lines (Editing blocks entry edits) = Heading ∷ (blocks_lines blocks.items ++ block_lines entry.items edits.items)
told_lines (Done blocks) = plan_lines blocks.items

-- where they are in the order of a plan's lines
abbrev pub stage_of : Progress → Stage
stage_of Start = AtStart
stage_of Between = Ahead
stage_of (Entering blocks entry) = InEntry
stage_of (Editing blocks entry edits) = InEdits
stage_of (Done blocks) = AtEnd

-- what is told after one more line; none where the line may not stand there
abbrev pub Follows : Progress → Line → Option Progress → Type 0
Follows d l None = next_stage (stage_of d) (line_value l) ≡ None
Follows d l (Some e) = (next_stage (stage_of d) (line_value l) ≡ Some (stage_of e)) × (told_lines e ≡ told_lines d ++ line_value l ∷ [])

-- the lines are those of a plan
abbrev pub FitsPlan : List (List ℕ) → Type 0
FitsPlan ws = (bs : List BlockPlan) × AllLines (plan_lines bs) × (map line_text (plan_lines bs) ≡ ws)

-- the lines are no plan's, and neither are more than k of them with any others behind them
pub record IsPlanStuckAt (ws : List (List ℕ)) (k : ℕ) : Type 0 where
  pub small : k ≤ length ws
  pub none : FitsPlan ws → ⊥
  pub above : (m : ℕ) (more : List (List ℕ)) → k < m → m ≤ length ws → FitsPlan (take m ws ++ more) → ⊥

-- what was found is so: the plan whose lines these are, or a number of lines that no plan goes past
abbrev pub IsPlanOutcome : List (List ℕ) → PlanOutcome → Type 0
IsPlanOutcome ws (P.Whole plan) = AllLines (plan_lines plan.blocks.items) × (map line_text (plan_lines plan.blocks.items) ≡ ws)
IsPlanOutcome ws (P.Stuck k) = IsPlanStuckAt ws k

-- the bytes are the text of no planned job, and no completion of more than k lines is one
abbrev pub IsStuckAt : List ℕ → ℕ → Type 0
IsStuckAt bytes k = IsStuck IsPlannedText plan_completion bytes k

-- what was found is so: the planned job whose text the bytes are, or a number of lines that none of these texts goes past
abbrev pub IsParseOutcome : List ℕ → ParseOutcome → Type 0
IsParseOutcome bytes (F.Whole p) = IsPlannedOf bytes p
IsParseOutcome bytes (F.Stuck k) = IsStuckAt bytes k

-- `Syntax` exactly where the bytes are the text of no planned job, with the line by completions
abbrev pub HasNoPlan : List ℕ → PlanTextError → Type 0
HasNoPlan bytes (Syntax line) = (IsPlannedText bytes → ⊥) × IsFirstWrongOfPlanned (pieces bytes) line
HasNoPlan bytes NoMemory = Unit {0}
