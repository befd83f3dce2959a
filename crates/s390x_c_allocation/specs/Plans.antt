-- What `s390x_check_plan` answers. A name with a prime is of what a call leaves.
use Rattle.std.specs.Prelude.{◌≡◌, ◌≢◌, ℕ, List, Result, Err, IsOk}
use Rattle.s390x_alloc.specs.Checked.{plan_contents}
use Rattle.s390x_alloc.specs.Walks.{EveryWalkReadsAlike}
use Rattle.s390x_alloc.specs.declared.fault.PlanFault.{PlanFault}
use Rattle.s390x_alloc.specs.declared.fault.PlanFault.TheVariants as fault
use Rattle.s390x_alloc.specs.declared.plan.EntryPair.{EntryPair}
use Rattle.s390x_operands.specs.declared.constraint.OperandError.{OperandError}
use Rattle.s390x_operands.specs.declared.constraint.OperandError.TheVariants.{ReuseInLoop, NotReal, NoMemory}
use Rattle.s390x_job_plan.specs.Completions.{IsFirstWrongOfPlanned, IsPlannedText}
use Rattle.s390x_job_plan.specs.Text.{IsPlannedOf}
use Rattle.s390x_job_plan.specs.declared.planned_job.PlannedJob.{PlannedJob}
use Rattle.s390x_calls.specs.Ends.{EndsTo, EndsWithNumber, IsNoText, IsTextSuchThat}
use Rattle.s390x_c_allocation.specs.declared.plan.PlanReason.{PlanReason}
use Rattle.s390x_calls.specs.declared.status.Status.{Status}
use Rattle.s390x_calls.specs.declared.status.Status.TheVariants as status

-- why operands can't be reported: 1 or 2, and 3 for want of memory
abbrev pub number_of_operand_error : OperandError → ℕ
number_of_operand_error ReuseInLoop = 1
number_of_operand_error NotReal = 2
number_of_operand_error NoMemory = 3

-- a line, and no fault
abbrev pub at_plan_line : ℕ → PlanReason
at_plan_line line = record { line = line; fault = 0; block = 0; index = 0; operand = 0; cause = 0 }

-- a fault by its number, with its block, its instruction, edit or pair, and its operand
abbrev pub told_fault : (fault block index operand : ℕ) → PlanReason
told_fault fault block index operand = record { line = 0; fault = fault; block = block; index = index; operand = operand; cause = 0 }

abbrev pub reason_of_fault : PlanFault → PlanReason
reason_of_fault fault.Blocks = told_fault 1 0 0 0
reason_of_fault (fault.Unsupported block inst) = told_fault 2 block inst 0
reason_of_fault (fault.Shape block inst) = told_fault 3 block inst 0
reason_of_fault (fault.Order block edit) = told_fault 4 block edit 0
reason_of_fault (fault.Operands block edit cause) = record (told_fault 5 block edit 0) { cause = number_of_operand_error cause }
reason_of_fault (fault.Count block edit) = told_fault 6 block edit 0
reason_of_fault (fault.Constraint block edit operand) = told_fault 7 block edit operand
reason_of_fault (fault.Move block edit) = told_fault 8 block edit 0
reason_of_fault (fault.Value block edit operand) = told_fault 9 block edit operand
reason_of_fault (fault.Entry block pair) = told_fault 10 block pair 0
reason_of_fault fault.NoMemory = told_fault 11 0 0 0

-- how the check of a plan with this fault ends, which want of memory is too
abbrev pub IsFaultTold : PlanFault → (reason reason' : PlanReason) → Status → Type 0
IsFaultTold f reason reason' status.PlanRefused = (f ≢ fault.NoMemory) × (reason' ≡ reason_of_fault f)
IsFaultTold f reason reason' status.NoMemory = (f ≡ fault.NoMemory) × (reason' ≡ reason)
IsFaultTold f reason reason' s = ⊥

-- the check of a plan
abbrev pub check_of : PlannedJob → Result (List (List EntryPair)) PlanFault
check_of p = plan_contents p.job.state.layout p.job.function.blocks.items p.plan.blocks.items

-- the plan has no fault, and on every walk from the first block, and whatever the values are, each instruction reads by its registers the values of its virtual
-- registers
pub record IsFaultless (p : PlannedJob) : Type 0 where
  pub faultless : IsOk (check_of p)
  pub walks : EveryWalkReadsAlike p.job.function.blocks.items p.plan.blocks.items

-- the plan has this first fault
pub record IsFaulty (p : PlannedJob) (reason' : PlanReason) : Type 0 where
  pub first : PlanFault
  pub named : first ≢ fault.NoMemory
  pub cause : check_of p ≡ Err first
  pub told : reason' ≡ reason_of_fault first

-- how the check of a job with a plan ends
abbrev pub ChecksPlanTo : (reason reason' : PlanReason) → PlannedJob → Status → Type 0
ChecksPlanTo reason reason' p status.Done = IsFaultless p × (reason' ≡ reason)
ChecksPlanTo reason reason' p status.PlanRefused = IsFaulty p reason'
ChecksPlanTo reason reason' p status.NoMemory = reason' ≡ reason
ChecksPlanTo reason reason' p s = ⊥

-- the input is the text of no job with a plan, and the reason is its first wrong line
abbrev pub IsPlanSyntax : (input : List ℕ) → (reason' : PlanReason) → Type 0
IsPlanSyntax input reason' = IsNoText IsPlannedText IsFirstWrongOfPlanned at_plan_line input reason'

-- how the check of an input ends; it writes nothing but the reason
abbrev pub ChecksTo : (input : List ℕ) → (reason reason' : PlanReason) → Status → Type 0
ChecksTo input reason reason' s =
    EndsTo input (IsPlannedOf input) (IsPlanSyntax input reason') (Unit {0}) (reason' ≡ reason) (ChecksPlanTo reason reason') s

-- the number is that of how the check of the input ends
abbrev pub IsCheckPlanCall : (input : List ℕ) → (reason reason' : PlanReason) → (number : ℕ) → Type 0
IsCheckPlanCall input reason reason' number = EndsWithNumber (ChecksTo input reason reason') number

-- the plan has no fault
abbrev pub HasNoFault : PlannedJob → Type 0
HasNoFault p = IsOk (check_of p)

-- the input is the text of a job with such a plan
abbrev pub IsChecked : (input : List ℕ) → Type 0
IsChecked input = IsTextSuchThat IsPlannedText (IsPlannedOf input) HasNoFault input
