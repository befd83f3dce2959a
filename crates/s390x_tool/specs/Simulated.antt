-- What is told of a simulation of several processors.
use Rattle.std.specs.Prelude.{ℕ, ◌≡◌, List, codes, Some, None}
use Rattle.s390x_smp.specs.Image.{start_cause}
use Rattle.s390x_smp.specs.declared.error.SmpError.{SmpError}
use Rattle.s390x_smp.specs.declared.error.SmpError.TheVariants as cause
use Rattle.s390x_smp.specs.Report.{IsSimulated}
use Rattle.s390x_tool.specs.Lines.{line}
use Rattle.s390x_tool.specs.declared.status.Status.{Status}
use Rattle.s390x_tool.specs.declared.status.Status.TheVariants as status

-- the reply to a simulation's refusal, which want of memory is too
abbrev pub IsSimulationRefusal : SmpError → Status → List ℕ → Type 0
IsSimulationRefusal cause.MisalignedBase s text = (s ≡ status.LinkRefused) × (text ≡ line (codes "link MisalignedBase"))
IsSimulationRefusal cause.ImageTooHigh s text = (s ≡ status.LinkRefused) × (text ≡ line (codes "link ImageTooHigh"))
IsSimulationRefusal cause.BadWord s text = (s ≡ status.BadWord) × (text ≡ line (codes "bad word"))
IsSimulationRefusal cause.NoMemory s text = (s ≡ status.NoMemory) × (text ≡ line (codes "no memory"))

-- the text of a simulation, which nothing refuses
pub record IsSimulationText (base word count steps start : ℕ) (text : List ℕ) : Type 0 where
  pub usable : start_cause base word ≡ None
  pub told : IsSimulated base word count steps start text

-- there is none with this base and this address of the word, by this cause
pub record IsUnsimulated (base word : ℕ) (s : Status) (text : List ℕ) : Type 0 where
  pub error : SmpError
  pub cause : start_cause base word ≡ Some error
  pub told : IsSimulationRefusal error s text

-- the reply to words that ask for one
abbrev pub IsSimulateReply : (base word count steps start : ℕ) → Status → List ℕ → Type 0
IsSimulateReply base word count steps start status.Ok text = IsSimulationText base word count steps start text
IsSimulateReply base word count steps start status.LinkRefused text = IsUnsimulated base word status.LinkRefused text
IsSimulateReply base word count steps start status.BadWord text = IsUnsimulated base word status.BadWord text
IsSimulateReply base word count steps start status.NoMemory text = text ≡ line (codes "no memory")
IsSimulateReply base word count steps start s text = ⊥
