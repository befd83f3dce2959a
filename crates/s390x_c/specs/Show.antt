-- What `s390x_show` answers. A name with a prime is of what a call leaves.
use Rattle.std.specs.Prelude.{◌≡◌, ◌≤◌, ℕ, List, None, length}
use Rattle.s390x_job.specs.Completions.{IsText}
use Rattle.s390x_job.specs.declared.job.Job.{Job}
use Rattle.s390x_listing.specs.Texts.{texts_listing}
use Rattle.s390x_text_rows.specs.Texts.{Text}
use Rattle.s390x_calls.specs.Ends.{EndsWithNumber, IsTextSuchThat}
use Rattle.s390x_calls.specs.Input.{EndsToOfJob, IsJobOf}
use Rattle.s390x_calls.specs.Put.{HasNoRoom, HoldsEntries, NoEntryIsWritten}
use Rattle.s390x_calls.specs.declared.reason.Reason.{Reason}
use Rattle.s390x_calls.specs.declared.status.Status.{Status}
use Rattle.s390x_calls.specs.declared.status.Status.TheVariants as status
use Rattle.s390x_c.specs.Refused.{IsRefused, job_cause}

-- the texts of a job's instructions
abbrev pub texts_of : Job → Text
texts_of j = texts_listing j.info.isa_flags j.state j.function.blocks.items

-- each instruction has a text, and the buffer begins with them
pub record HoldsTexts (j : Job) (out out' : List ℕ) (count' : ℕ) : Type 0 where
  pub told : (texts_of j).cause ≡ None
  pub held : HoldsEntries (texts_of j).bytes out out' count'

-- each instruction has a text, and the buffer has no room for them
pub record HasNoRoomForTexts (j : Job) (out out' : List ℕ) (count' : ℕ) : Type 0 where
  pub told : (texts_of j).cause ≡ None
  pub small : HasNoRoom (texts_of j).bytes out out' count'

-- how a call ends that writes the texts
abbrev pub PutsTexts : Job → (out out' : List ℕ) → (count count' : ℕ) → Status → Type 0
PutsTexts j out out' count count' status.Done = HoldsTexts j out out' count'
PutsTexts j out out' count count' status.NoMemory = NoEntryIsWritten out out' count count'
PutsTexts j out out' count count' status.TooSmall = HasNoRoomForTexts j out out' count'
PutsTexts j out out' count count' s = ⊥

-- how the listing of a job ends; one without a code has none
abbrev pub ShowsJobTo : (out out' : List ℕ) → (count count' : ℕ) → (reason reason' : Reason) → Job → Status → Type 0
ShowsJobTo out out' count count' reason reason' j status.Done = (job_cause j ≡ None) × HoldsTexts j out out' count' × (reason' ≡ reason)
ShowsJobTo out out' count count' reason reason' j status.Refused = IsRefused j reason' × NoEntryIsWritten out out' count count'
ShowsJobTo out out' count count' reason reason' j status.NoMemory = NoEntryIsWritten out out' count count' × (reason' ≡ reason)
ShowsJobTo out out' count count' reason reason' j status.TooSmall = (job_cause j ≡ None) × HasNoRoomForTexts j out out' count' × (reason' ≡ reason)
ShowsJobTo out out' count count' reason reason' j s = ⊥

-- how the listing of an input ends
abbrev pub ShowsTo : (input out out' : List ℕ) → (count count' : ℕ) → (reason reason' : Reason) → Status → Type 0
ShowsTo input out out' count count' reason reason' s =
    EndsToOfJob input reason reason' (NoEntryIsWritten out out' count count') (ShowsJobTo out out' count count' reason reason') s

-- the number is that of how the listing of the input ends
abbrev pub IsShowCall : (input out out' : List ℕ) → (count count' : ℕ) → (reason reason' : Reason) → (number : ℕ) → Type 0
IsShowCall input out out' count count' reason reason' number = EndsWithNumber (ShowsTo input out out' count count' reason reason') number

-- emission has no cause to refuse the job, and the buffer has room for its instructions' texts
pub record CanBeShown (out : List ℕ) (j : Job) : Type 0 where
  pub valid : job_cause j ≡ None
  pub room : length (texts_of j).bytes ≤ length out

-- the input is the text of such a job
abbrev pub IsShown : (input out : List ℕ) → Type 0
IsShown input out = IsTextSuchThat IsText (IsJobOf input) (CanBeShown out) input
