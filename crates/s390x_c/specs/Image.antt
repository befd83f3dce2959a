-- What `s390x_image` answers. A name with a prime is of what a call leaves.
use Rattle.std.specs.Prelude.{◌≡◌, ◌≢◌, ◌≤◌, ◌⊎◌, ℕ, List, Some, None, length}
use Rattle.s390x_base.specs.declared.error.EmitError.TheVariants as emit
use Rattle.s390x_emit_int.specs.FunctionImage.{IsImageOf}
use Rattle.s390x_emit_int.specs.FunctionImage as function
use Rattle.s390x_emit_int.specs.declared.image.ImageError.{ImageError}
use Rattle.s390x_emit_int.specs.declared.image.ImageError.TheVariants.{Refused, Link}
use Rattle.s390x_image.specs.Errors.{number_of_link_error}
use Rattle.s390x_image.specs.Symbols.{Symbols, no_symbols}
use Rattle.s390x_image.specs.declared.error.LinkError.{LinkError}
use Rattle.s390x_image.specs.declared.error.LinkError.TheVariants as link
use Rattle.s390x_bundle.specs.Table.{with_lines}
use Rattle.s390x_job.specs.Completions.{IsText}
use Rattle.s390x_job.specs.declared.job.Job.{Job}
use Rattle.s390x_calls.specs.Ends.{EndsWithNumber, IsTextSuchThat}
use Rattle.s390x_calls.specs.Input.{EndsToOfJob, IsJobOf, by_cause}
use Rattle.s390x_calls.specs.Places.{no_place}
use Rattle.s390x_calls.specs.Put.{HasNoRoom, HoldsEntries, NoEntryIsWritten}
use Rattle.s390x_calls.specs.declared.reason.Reason.{Reason}
use Rattle.s390x_calls.specs.declared.status.Status.{Status}
use Rattle.s390x_calls.specs.declared.status.Status.TheVariants as status
use Rattle.s390x_c.specs.Refused.{IsRefused, IsRefusalTold, job_cause}

-- the addresses of a job's symbols
abbrev pub symbols_of : Job → Symbols
symbols_of j = with_lines no_symbols j.symbols.items

-- the image of a job's function at a base, with the theorem of what a machine does that fetches it
abbrev pub IsImageOfJob : (base : ℕ) → Job → List ℕ → Type 0
IsImageOfJob base j bytes = IsImageOf j.info.isa_flags j.state j.function base (symbols_of j) bytes

-- the buffer begins with the image of the job's function
pub record HoldsImage (base : ℕ) (j : Job) (out out' : List ℕ) (count' : ℕ) : Type 0 where
  pub bytes : List ℕ
  pub image : IsImageOfJob base j bytes
  pub held : HoldsEntries bytes out out' count'

-- the buffer has no room for the image of the job's function
pub record HasNoRoomForImage (base : ℕ) (j : Job) (out out' : List ℕ) (count' : ℕ) : Type 0 where
  pub bytes : List ℕ
  pub image : IsImageOfJob base j bytes
  pub small : HasNoRoom bytes out out' count'

-- linking refuses the code of the job's function by its first cause
pub record IsLinkRefused (base : ℕ) (j : Job) (reason' : Reason) : Type 0 where
  pub error : LinkError
  pub first : function.IsLinkRefused j.info.isa_flags j.state j.function base (symbols_of j) error
  pub told : reason' ≡ by_cause (number_of_link_error error) no_place

-- how the linking of a job ends
abbrev pub LinksJobTo : (base : ℕ) → (out out' : List ℕ) → (count count' : ℕ) → (reason reason' : Reason) → Job → Status → Type 0
LinksJobTo base out out' count count' reason reason' j status.Done = HoldsImage base j out out' count' × (reason' ≡ reason)
LinksJobTo base out out' count count' reason reason' j status.Refused = IsRefused j reason' × NoEntryIsWritten out out' count count'
LinksJobTo base out out' count count' reason reason' j status.LinkRefused = IsLinkRefused base j reason' × NoEntryIsWritten out out' count count'
LinksJobTo base out out' count count' reason reason' j status.NoMemory = NoEntryIsWritten out out' count count' × (reason' ≡ reason)
LinksJobTo base out out' count count' reason reason' j status.TooSmall = HasNoRoomForImage base j out out' count' × (reason' ≡ reason)
LinksJobTo base out out' count count' reason reason' j s = ⊥

-- how the linking of an input ends
abbrev pub LinksTo : (base : ℕ) → (input out out' : List ℕ) → (count count' : ℕ) → (reason reason' : Reason) → Status → Type 0
LinksTo base input out out' count count' reason reason' s =
    EndsToOfJob input reason reason' (NoEntryIsWritten out out' count count') (LinksJobTo base out out' count count' reason reason') s

-- the number is that of how the linking of the input ends
abbrev pub IsImageCall : (base : ℕ) → (input out out' : List ℕ) → (count count' : ℕ) → (reason reason' : Reason) → (number : ℕ) → Type 0
IsImageCall base input out out' count count' reason reason' number =
    EndsWithNumber (LinksTo base input out out' count count' reason reason') number

-- neither emission nor linking has a cause to refuse the job, and the buffer has room for its image
pub record CanBeLinked (base : ℕ) (out : List ℕ) (j : Job) : Type 0 where
  pub valid : job_cause j ≡ None
  pub links : (error : LinkError) → function.IsLinkRefused j.info.isa_flags j.state j.function base (symbols_of j) error → ⊥
  pub room : (bytes : List ℕ) → IsImageOfJob base j bytes → length bytes ≤ length out

-- the input is the text of such a job
abbrev pub IsLinked : (base : ℕ) → (input out : List ℕ) → Type 0
IsLinked base input out = IsTextSuchThat IsText (IsJobOf input) (CanBeLinked base out) input

-- an error of emission is the job's first cause, or want of memory
abbrev pub MayRefuse : Job → ImageError → Type 0
MayRefuse j (Refused error) = (error ≡ emit.NoMemory) ⊎ (job_cause j ≡ Some error)
MayRefuse j (Link error) = Unit {0}

-- how a call ends for a function that has no image by this error, which want of memory is too
abbrev pub IsRefusalOf : Job → ImageError → (reason reason' : Reason) → Status → Type 0
IsRefusalOf j (Refused error) reason reason' s = IsRefusalTold j reason reason' s
IsRefusalOf j (Link error) reason reason' status.NoMemory = (error ≡ link.NoMemory) × (reason' ≡ reason)
IsRefusalOf j (Link error) reason reason' status.LinkRefused = (error ≢ link.NoMemory) × (reason' ≡ by_cause (number_of_link_error error) no_place)
IsRefusalOf j (Link error) reason reason' s = ⊥
