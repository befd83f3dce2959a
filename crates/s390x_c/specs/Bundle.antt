-- What `s390x_bundle` answers. A name with a prime is of what a call leaves.
use Rattle.std.specs.Prelude.{◌≡◌, ◌≢◌, ◌≤◌, ℕ, List, length, map}
use Rattle.s390x_base.specs.Errors.{number_of_error}
use Rattle.s390x_bundle.specs.Members.{member_of}
use Rattle.s390x_bundle.specs.Bundled.{HasNoImage, IsImageOfMembers}
use Rattle.s390x_bundle.specs.declared.error.BundleError.{BundleError}
use Rattle.s390x_bundle.specs.declared.error.BundleError.TheVariants as cause
use Rattle.s390x_bundle.specs.declared.joining.Bundle.{Bundle}
use Rattle.s390x_job_bundle.specs.Completions.{IsBundleText, IsFirstWrongOfBundle}
use Rattle.s390x_job_bundle.specs.Text.{AreFunctionsOf}
use Rattle.s390x_job_bundle.specs.declared.named_job.NamedJob.{NamedJob}
use Rattle.s390x_image.specs.Errors.{number_of_link_error}
use Rattle.s390x_calls.specs.Ends.{EndsTo, EndsWithNumber, IsNoText, IsTextSuchThat}
use Rattle.s390x_calls.specs.Input.{at_line, by_member}
use Rattle.s390x_calls.specs.Put.{HasNoRoom, HoldsEntries, NoEntryIsWritten}
use Rattle.s390x_calls.specs.declared.reason.Reason.{Reason}
use Rattle.s390x_calls.specs.declared.status.Status.{Status}
use Rattle.s390x_calls.specs.declared.status.Status.TheVariants as status

-- the cause, and the function that has it
abbrev pub reason_of_bundle : BundleError → Reason
reason_of_bundle (cause.DuplicateName name) = by_member 1 name.0
reason_of_bundle (cause.Emit name error) = by_member (number_of_error error) name.0
reason_of_bundle (cause.EmptyMember name) = by_member 2 name.0
reason_of_bundle (cause.TooLong name) = by_member 3 name.0
reason_of_bundle (cause.AddressTooHigh name) = by_member 4 name.0
reason_of_bundle (cause.Link name error) = by_member (number_of_link_error error) name.0
reason_of_bundle cause.NoMemory = by_member 0 0

-- what refuses the functions: emission, linking, or their names and places
abbrev pub status_of_bundle : BundleError → Status
status_of_bundle (cause.DuplicateName name) = status.BundleRefused
status_of_bundle (cause.Emit name error) = status.Refused
status_of_bundle (cause.EmptyMember name) = status.BundleRefused
status_of_bundle (cause.TooLong name) = status.BundleRefused
status_of_bundle (cause.AddressTooHigh name) = status.BundleRefused
status_of_bundle (cause.Link name error) = status.LinkRefused
status_of_bundle cause.NoMemory = status.NoMemory

-- The buffer begins with the functions' image. No name comes twice, and no emission, place or linking has a cause to refuse one of them. A machine that fetches the
-- image does only what the functions and their calls of each other allow
pub record HoldsBundle (base : ℕ) (functions : List NamedJob) (out out' : List ℕ) (count' : ℕ) : Type 0 where
  pub bundle : Bundle
  pub image : IsImageOfMembers base (map member_of functions) bundle
  pub held : HoldsEntries bundle.image.bytes.items out out' count'

-- the buffer has no room for the functions' image
pub record HasNoRoomForBundle (base : ℕ) (functions : List NamedJob) (out out' : List ℕ) (count' : ℕ) : Type 0 where
  pub bundle : Bundle
  pub image : IsImageOfMembers base (map member_of functions) bundle
  pub small : HasNoRoom bundle.image.bytes.items out out' count'

-- the functions have no image, by their first cause, which this status tells
pub record IsUnbundled (base : ℕ) (functions : List NamedJob) (reason' : Reason) (s : Status) : Type 0 where
  pub error : BundleError
  pub named : error ≢ cause.NoMemory
  pub first : HasNoImage base (map member_of functions) error
  pub told : reason' ≡ reason_of_bundle error
  pub by : s ≡ status_of_bundle error

-- how the joining of functions ends
abbrev pub BundlesFunctionsTo : (base : ℕ) → (out out' : List ℕ) → (count count' : ℕ) → (reason reason' : Reason) → List NamedJob → Status → Type 0
BundlesFunctionsTo base out out' count count' reason reason' fs status.Done = HoldsBundle base fs out out' count' × (reason' ≡ reason)
BundlesFunctionsTo base out out' count count' reason reason' fs status.NoMemory = NoEntryIsWritten out out' count count' × (reason' ≡ reason)
BundlesFunctionsTo base out out' count count' reason reason' fs status.TooSmall = HasNoRoomForBundle base fs out out' count' × (reason' ≡ reason)
BundlesFunctionsTo base out out' count count' reason reason' fs status.Refused = IsUnbundled base fs reason' status.Refused × NoEntryIsWritten out out' count count'
BundlesFunctionsTo base out out' count count' reason reason' fs status.LinkRefused = IsUnbundled base fs reason' status.LinkRefused × NoEntryIsWritten out out' count count'
BundlesFunctionsTo base out out' count count' reason reason' fs status.BundleRefused = IsUnbundled base fs reason' status.BundleRefused × NoEntryIsWritten out out' count count'
BundlesFunctionsTo base out out' count count' reason reason' fs s = ⊥

-- the input is the text of no functions, and the reason is its first wrong line
abbrev pub IsBundleSyntax : (input : List ℕ) → (reason' : Reason) → Type 0
IsBundleSyntax input reason' = IsNoText IsBundleText IsFirstWrongOfBundle at_line input reason'

-- how the joining of an input ends
abbrev pub BundlesTo : (base : ℕ) → (input out out' : List ℕ) → (count count' : ℕ) → (reason reason' : Reason) → Status → Type 0
BundlesTo base input out out' count count' reason reason' s =
    EndsTo input (AreFunctionsOf input) (IsBundleSyntax input reason') (NoEntryIsWritten out out' count count') (reason' ≡ reason)
    (BundlesFunctionsTo base out out' count count' reason reason') s

-- the number is that of how the joining of the input ends
abbrev pub IsBundleCall : (base : ℕ) → (input out out' : List ℕ) → (count count' : ℕ) → (reason reason' : Reason) → (number : ℕ) → Type 0
IsBundleCall base input out out' count count' reason reason' number =
    EndsWithNumber (BundlesTo base input out out' count count' reason reason') number

-- nothing but want of memory keeps the functions from an image, and the buffer has room for it
pub record CanBeBundled (base : ℕ) (out : List ℕ) (functions : List NamedJob) : Type 0 where
  pub valid : (error : BundleError) → HasNoImage base (map member_of functions) error → error ≡ cause.NoMemory
  pub room : (bundle : Bundle) → IsImageOfMembers base (map member_of functions) bundle → length bundle.image.bytes.items ≤ length out

-- the input is the text of such functions
abbrev pub IsBundled : (base : ℕ) → (input out : List ℕ) → Type 0
IsBundled base input out = IsTextSuchThat IsBundleText (AreFunctionsOf input) (CanBeBundled base out) input

-- how a call ends for functions without an image, which want of memory is too
abbrev pub IsBundleRefusal : BundleError → (reason reason' : Reason) → Status → Type 0
IsBundleRefusal error reason reason' status.NoMemory = (error ≡ cause.NoMemory) × (reason' ≡ reason)
IsBundleRefusal error reason reason' status.Refused = (error ≢ cause.NoMemory) × (status.Refused ≡ status_of_bundle error) × (reason' ≡ reason_of_bundle error)
IsBundleRefusal error reason reason' status.LinkRefused = (error ≢ cause.NoMemory) × (status.LinkRefused ≡ status_of_bundle error) × (reason' ≡ reason_of_bundle error)
IsBundleRefusal error reason reason' status.BundleRefused = (error ≢ cause.NoMemory) × (status.BundleRefused ≡ status_of_bundle error) × (reason' ≡ reason_of_bundle error)
IsBundleRefusal error reason reason' s = ⊥
