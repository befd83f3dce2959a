-- What the reader answers.
use Rattle.std.specs.Prelude.{◌≡◌, ℕ, ◌<◌, List, Option, Some, None}
use Rattle.s390x_base.specs.declared.ir.ExternalName.{ExternalName}
use Rattle.s390x_job.specs.Completions.{IsFirstWrong, IsStuck, IsText, pieces}
use Rattle.s390x_job_bundle.specs.Text.{AreFunctionsOf, close_line, head_line}
use Rattle.s390x_job_bundle.specs.Completions.{IsBundleText, IsFirstWrongOfBundle, bundle_completion}
use Rattle.s390x_job_bundle.specs.declared.head.Head.{Head}
use Rattle.s390x_job_bundle.specs.declared.named_job.NamedJob.{NamedJob}
use Rattle.s390x_job_bundle.specs.declared.head.Head.TheVariants.{Function, Close, Other}
use Rattle.s390x_job_bundle.specs.declared.find.ParseOutcome.{ParseOutcome}
use Rattle.s390x_job_bundle.specs.declared.find.ParseOutcome.TheVariants.{Whole, Stuck}
use Rattle.s390x_job_bundle.specs.declared.error.BundleTextError.{BundleTextError}
use Rattle.s390x_job_bundle.specs.declared.error.BundleTextError.TheVariants.{Syntax, NoMemory}

-- what stands between two jobs
abbrev pub IsHead : List ℕ → Head → Type 0
IsHead w (Function name) = (name.0 < 4294967296) × (head_line name ≡ w)
IsHead w Close = w ≡ close_line
IsHead w Other = (w ≡ close_line → ⊥) × ((name : ExternalName) → name.0 < 4294967296 → head_line name ≡ w → ⊥)

-- the bytes are the text of no job, and this is their first wrong line
abbrev pub HasNoJob : List ℕ → (line : ℕ) → Type 0
HasNoJob bytes line = (IsText bytes → ⊥) × IsFirstWrong (pieces bytes) line

-- the bytes are the text of no functions, and no completion of more than k lines is one
abbrev pub IsStuckAt : List ℕ → ℕ → Type 0
IsStuckAt bytes k = IsStuck IsBundleText bundle_completion bytes k

-- what was found is so: the functions whose text the bytes are, or a number of lines that none of these texts goes past
abbrev pub IsParseOutcome : List ℕ → ParseOutcome → Type 0
IsParseOutcome bytes (Whole functions) = AreFunctionsOf bytes functions.items
IsParseOutcome bytes (Stuck k) = IsStuckAt bytes k

-- a sink, of which this says what it has taken, has taken the functions whose text the bytes are
pub record HasTakenText {S : Type 0} (HasTaken : S → List NamedJob → Type 0) (bytes : List ℕ) (sink : S) : Type 0 where
  pub functions : List NamedJob
  pub are : AreFunctionsOf bytes functions
  pub taken : HasTaken sink functions

-- it has taken them, or none of these texts goes past a number of lines
abbrev pub AreTaken : {S : Type 0} → (S → List NamedJob → Type 0) → List ℕ → S → Option ℕ → Type 0
AreTaken HasTaken bytes sink None = HasTakenText HasTaken bytes sink
AreTaken HasTaken bytes sink (Some k) = IsStuckAt bytes k

-- `Syntax` exactly where the bytes are the text of no functions, with the line by completions
abbrev pub HasNoFunctions : List ℕ → BundleTextError → Type 0
HasNoFunctions bytes (Syntax line) = (IsBundleText bytes → ⊥) × IsFirstWrongOfBundle (pieces bytes) line
HasNoFunctions bytes NoMemory = Unit {0}
