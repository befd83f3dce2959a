-- What `s390x_operands` answers. A name with a prime is of what a call leaves.
use Rattle.std.specs.Prelude.{◌≡◌, ◌≤◌, ℕ, List, [], ◌∷◌, Some, None, length}
use Rattle.s390x_job.specs.Completions.{IsText}
use Rattle.s390x_job.specs.declared.job.Job.{Job}
use Rattle.s390x_calls.specs.Ends.{EndsWithNumber, IsTextSuchThat}
use Rattle.s390x_calls.specs.Input.{EndsToOfJob, IsJobOf, by_cause}
use Rattle.s390x_calls.specs.Places.{of_instruction}
use Rattle.s390x_c_allocation.specs.Plans.{number_of_operand_error}
use Rattle.s390x_calls.specs.Put.{HasNoRoom, HoldsEntries, NoEntryIsWritten}
use Rattle.s390x_c_allocation.specs.Reports.{Report, blocks_report}
use Rattle.s390x_c_allocation.specs.declared.operand_entries.OperandEntry.{OperandEntry}
use Rattle.s390x_calls.specs.declared.reason.Reason.{Reason}
use Rattle.s390x_c_allocation.specs.declared.report.Unreported.{Unreported}
use Rattle.s390x_calls.specs.declared.status.Status.{Status}
use Rattle.s390x_calls.specs.declared.status.Status.TheVariants as status

-- the cause, at its instruction
abbrev pub reason_of_unreported : Unreported → Reason
reason_of_unreported u = by_cause (number_of_operand_error u.cause) (of_instruction u.block (u.instruction ∷ []))

-- what a job's instructions report
abbrev pub report_of : Job → Report
report_of j = blocks_report j.function.blocks.items

-- all can be reported, and the buffer begins with the entries
pub record HoldsReport (j : Job) (out out' : List OperandEntry) (count' : ℕ) : Type 0 where
  pub valid : (report_of j).first ≡ None
  pub held : HoldsEntries (report_of j).entries out out' count'

-- all can be reported, and the buffer has no room for the entries
pub record HasNoRoomForReport (j : Job) (out out' : List OperandEntry) (count' : ℕ) : Type 0 where
  pub valid : (report_of j).first ≡ None
  pub small : HasNoRoom (report_of j).entries out out' count'

-- the operands of an instruction can't be reported, the first such one
pub record IsUnreported (j : Job) (reason' : Reason) : Type 0 where
  pub unreported : Unreported
  pub first : (report_of j).first ≡ Some unreported
  pub told : reason' ≡ reason_of_unreported unreported

-- how the report of a job ends
abbrev pub ReportsJobTo : (out out' : List OperandEntry) → (count count' : ℕ) → (reason reason' : Reason) → Job → Status → Type 0
ReportsJobTo out out' count count' reason reason' j status.Done = HoldsReport j out out' count' × (reason' ≡ reason)
ReportsJobTo out out' count count' reason reason' j status.Refused = IsUnreported j reason' × NoEntryIsWritten out out' count count'
ReportsJobTo out out' count count' reason reason' j status.NoMemory = NoEntryIsWritten out out' count count' × (reason' ≡ reason)
ReportsJobTo out out' count count' reason reason' j status.TooSmall = HasNoRoomForReport j out out' count' × (reason' ≡ reason)
ReportsJobTo out out' count count' reason reason' j s = ⊥

-- how the report of an input ends
abbrev pub ReportsTo : (input : List ℕ) → (out out' : List OperandEntry) → (count count' : ℕ) → (reason reason' : Reason) → Status → Type 0
ReportsTo input out out' count count' reason reason' s =
    EndsToOfJob input reason reason' (NoEntryIsWritten out out' count count') (ReportsJobTo out out' count count' reason reason') s

-- the number is that of how the report of the input ends
abbrev pub IsOperandsCall : (input : List ℕ) → (out out' : List OperandEntry) → (count count' : ℕ) → (reason reason' : Reason) → (number : ℕ) → Type 0
IsOperandsCall input out out' count count' reason reason' number =
    EndsWithNumber (ReportsTo input out out' count count' reason reason') number

-- all can be reported, and the buffer has room for the entries
pub record CanBeReported (out : List OperandEntry) (j : Job) : Type 0 where
  pub valid : (report_of j).first ≡ None
  pub room : length (report_of j).entries ≤ length out

-- the input is the text of such a job
abbrev pub IsReported : (input : List ℕ) → (out : List OperandEntry) → Type 0
IsReported input out = IsTextSuchThat IsText (IsJobOf input) (CanBeReported out) input
