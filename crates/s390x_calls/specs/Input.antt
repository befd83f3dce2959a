-- What a call says of its input.
use Rattle.std.specs.Prelude.{◌≡◌, ℕ, List}
use Rattle.s390x_job.specs.Completions.{IsFirstWrong, IsText}
use Rattle.s390x_job.specs.Jobs.{text_of_job, IsJob}
use Rattle.s390x_job.specs.Same.{SameJob}
use Rattle.s390x_job.specs.declared.job.Job.{Job}
use Rattle.s390x_calls.specs.Ends.{EndsTo, IsNoText}
use Rattle.s390x_calls.specs.Places.{no_place}
use Rattle.s390x_calls.specs.declared.place.Place.{Place}
use Rattle.s390x_calls.specs.declared.reason.Reason.{Reason}
use Rattle.s390x_calls.specs.declared.status.Status.{Status}

-- a line, and nothing else
abbrev pub at_line : ℕ → Reason
at_line line = record { line = line; cause = 0; member = 0; place = no_place }

-- a cause and its place
abbrev pub by_cause : ℕ → Place → Reason
by_cause number place = record { line = 0; cause = number; member = 0; place = place }

-- a cause and the name of the function that has it
abbrev pub by_member : (number member : ℕ) → Reason
by_member number member = record { line = 0; cause = number; member = member; place = no_place }

-- the input is the text of this job, the only one
pub record IsJobOf (input : List ℕ) (j : Job) : Type 0 where
  pub is : IsJob j
  pub spelled : text_of_job j ≡ input
  pub one : (other : Job) → IsJob other → text_of_job other ≡ input → SameJob j other

-- the input is the text of no job, and the reason is its first wrong line
abbrev pub IsSyntax : (input : List ℕ) → (reason' : Reason) → Type 0
IsSyntax input reason' = IsNoText IsText IsFirstWrong at_line input reason'

-- how a call ends on an input that has to be the text of a job
abbrev pub EndsToOfJob : (input : List ℕ) → (reason reason' : Reason) → (Unwritten : Type 0) → (Ends : Job → Status → Type 0) → Status → Type 0
EndsToOfJob input reason reason' Unwritten Ends s = EndsTo input (IsJobOf input) (IsSyntax input reason') Unwritten (reason' ≡ reason) Ends s
