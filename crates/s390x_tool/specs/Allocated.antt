-- What is told of a job with the registers of a plan.
use Rattle.std.specs.Prelude.{ℕ, ◌≡◌, ◌≢◌, ◌≤◌, ◌⊎◌, List, [], ◌∷◌, ◌++◌, codes, length, IsOk, Err}
use Rattle.std.specs.Fmt.{decimal}
use Rattle.s390x_alloc.specs.Answered.{IsAnswered}
use Rattle.s390x_alloc.specs.Checked.{plan_contents}
use Rattle.s390x_alloc.specs.Walks.{EveryWalkReadsAlike}
use Rattle.s390x_alloc.specs.declared.fault.PlanFault.{PlanFault}
use Rattle.s390x_alloc.specs.declared.fault.PlanFault.TheVariants as fault
use Rattle.s390x_job_plan.specs.Jobs.{with_function}
use Rattle.s390x_inst.specs.declared.function.AllocatedFunction.{AllocatedFunction}
use Rattle.s390x_job.specs.Completions.{pieces}
use Rattle.s390x_job.specs.Jobs.{IsJob, text_of_job}
use Rattle.s390x_job_plan.specs.Completions.{IsFirstWrongOfPlanned, IsPlannedText}
use Rattle.s390x_job_plan.specs.Text.{IsPlanned, IsPlannedOf, text_of_planned}
use Rattle.s390x_job_plan.specs.declared.planned_job.PlannedJob.{PlannedJob}
use Rattle.s390x_tool.specs.Ends.{most_bytes}
use Rattle.s390x_tool.specs.Lines.{line, operand_error_name}
use Rattle.s390x_tool.specs.declared.status.Status.{Status}
use Rattle.s390x_tool.specs.declared.status.Status.TheVariants as status

-- a name and numbers, each behind a space
abbrev pub numbered_fault : List ℕ → List ℕ → List ℕ
numbered_fault name [] = name
numbered_fault name (n ∷ ns) = numbered_fault (name ++ (32 ∷ decimal n)) ns

-- a fault by its name and its numbers; that of operands ends with its cause
abbrev pub fault_text : PlanFault → List ℕ
fault_text fault.Blocks = codes "Blocks"
fault_text (fault.Unsupported block inst) = numbered_fault (codes "Unsupported") (block ∷ inst ∷ [])
fault_text (fault.Shape block inst) = numbered_fault (codes "Shape") (block ∷ inst ∷ [])
fault_text (fault.Order block edit) = numbered_fault (codes "Order") (block ∷ edit ∷ [])
fault_text (fault.Operands block edit cause) = numbered_fault (codes "Operands") (block ∷ edit ∷ []) ++ (32 ∷ operand_error_name cause)
fault_text (fault.Count block edit) = numbered_fault (codes "Count") (block ∷ edit ∷ [])
fault_text (fault.Constraint block edit operand) = numbered_fault (codes "Constraint") (block ∷ edit ∷ operand ∷ [])
fault_text (fault.Move block edit) = numbered_fault (codes "Move") (block ∷ edit ∷ [])
fault_text (fault.Value block edit operand) = numbered_fault (codes "Value") (block ∷ edit ∷ operand ∷ [])
fault_text (fault.Entry block pair) = numbered_fault (codes "Entry") (block ∷ pair ∷ [])
fault_text fault.NoMemory = codes "NoMemory"

-- `plan`, and the fault
abbrev pub fault_line : PlanFault → List ℕ
fault_line f = line (codes "plan " ++ fault_text f)

-- the reply to a plan with a fault; want of memory is one too, and may come at any other
abbrev pub IsPlanRefusal : PlanFault → Status → List ℕ → Type 0
IsPlanRefusal f s text = ((f ≢ fault.NoMemory) × (s ≡ status.PlanRefused) × (text ≡ fault_line f)) ⊎ ((s ≡ status.NoMemory) × (text ≡ line (codes "no memory")))

-- The text of `alloc`: that of the job with the function that the plan gives in place of its own, which is a job again. The plan has no fault, and on every walk from the
-- first block, and whatever the values are, each instruction reads by its registers the values of its virtual registers.
pub record IsAllocatedText (input text : List ℕ) : Type 0 where
  pub planned : PlannedJob
  pub is : IsPlannedOf input planned
  pub function : AllocatedFunction
  pub answered : IsAnswered planned.job.state.layout planned.job.function planned.plan function
  pub walks : EveryWalkReadsAlike planned.job.function.blocks.items planned.plan.blocks.items
  pub job : IsJob (with_function planned.job function)
  pub spelled : text ≡ text_of_job (with_function planned.job function)

-- the plan is refused by its first fault
pub record IsPlanRefused (input text : List ℕ) : Type 0 where
  pub planned : PlannedJob
  pub is : IsPlannedOf input planned
  pub first : PlanFault
  pub named : first ≢ fault.NoMemory
  pub cause : plan_contents planned.job.state.layout planned.job.function.blocks.items planned.plan.blocks.items ≡ Err first
  pub spelled : text ≡ fault_line first

-- the input is the text of no planned job, and this is its first wrong line
pub record IsPlanSyntax (input text : List ℕ) : Type 0 where
  pub none : IsPlannedText input → ⊥
  pub number : ℕ
  pub first : IsFirstWrongOfPlanned (pieces input) number
  pub spelled : text ≡ line (codes "syntax " ++ decimal number)

-- the answer to `alloc` and its whole input
abbrev pub IsAllocateAnswer : List ℕ → Status → List ℕ → Type 0
IsAllocateAnswer input status.Ok text = IsAllocatedText input text
IsAllocateAnswer input status.PlanRefused text = IsPlanRefused input text
IsAllocateAnswer input status.Syntax text = IsPlanSyntax input text
IsAllocateAnswer input status.NoMemory text = text ≡ line (codes "no memory")
IsAllocateAnswer input s text = ⊥

-- the input is the text of a planned job, whose plan has no fault
pub record IsPlanAccepted (input : List ℕ) : Type 0 where
  pub short : length input ≤ most_bytes
  pub planned : IsPlannedText input
  pub faultless : (p : PlannedJob) → IsPlanned p → text_of_planned p ≡ input → IsOk (plan_contents p.job.state.layout p.job.function.blocks.items p.plan.blocks.items)
