-- What is told of several functions in one image.
use Rattle.std.specs.Prelude.{ℕ, ◌≡◌, ◌≢◌, ◌≤◌, ◌⊎◌, List, ◌∷◌, ◌++◌, codes, length, map, None}
use Rattle.std.specs.Fmt.{decimal}
use Rattle.hex.specs.Hex.{encode_lower}
use Rattle.s390x_base.specs.declared.ir.ExternalName.{ExternalName}
use Rattle.s390x_buffer.specs.declared.entries.MachBufferFinalized.{MachBufferFinalized}
use Rattle.s390x_job.specs.Completions.{pieces}
use Rattle.s390x_bundle.specs.Members.{member_of}
use Rattle.s390x_bundle.specs.Bundled.{HasNoImage, IsImageOfMembers, duplicate_of}
use Rattle.s390x_bundle.specs.Emitted.{AreEmitted, first_refused}
use Rattle.s390x_bundle.specs.Joined.{misplaced_member, unlinked_member}
use Rattle.s390x_bundle.specs.declared.error.BundleError.{BundleError}
use Rattle.s390x_bundle.specs.declared.error.BundleError.TheVariants as cause
use Rattle.s390x_bundle.specs.declared.joining.Bundle.{Bundle}
use Rattle.s390x_bundle.specs.declared.member.Member.{Member}
use Rattle.s390x_job_bundle.specs.Completions.{IsBundleText, IsFirstWrongOfBundle}
use Rattle.s390x_job_bundle.specs.Text.{AreFunctions, AreFunctionsOf, text_of_functions}
use Rattle.s390x_job_bundle.specs.declared.named_job.NamedJob.{NamedJob}
use Rattle.s390x_tool.specs.Ends.{most_bytes}
use Rattle.s390x_tool.specs.Lines.{error_name, line, link_error_name}
use Rattle.s390x_tool.specs.declared.status.Status.{Status}
use Rattle.s390x_tool.specs.declared.status.Status.TheVariants as status

-- `bundle CAUSE uN`
abbrev pub named_refusal : List ℕ → ExternalName → List ℕ
named_refusal cause name = codes "bundle " ++ (cause ++ (codes " u" ++ decimal name.0))

-- `bundle CAUSE uN INNER`
abbrev pub inner_refusal : List ℕ → ExternalName → List ℕ → List ℕ
inner_refusal cause name inner = codes "bundle " ++ (cause ++ (codes " u" ++ (decimal name.0 ++ (32 ∷ inner))))

-- the line of a refusal, without its line feed
abbrev pub refusal_of_bundle : BundleError → List ℕ
refusal_of_bundle (cause.DuplicateName name) = named_refusal (codes "DuplicateName") name
refusal_of_bundle (cause.Emit name error) = inner_refusal (codes "Emit") name (error_name error)
refusal_of_bundle (cause.EmptyMember name) = named_refusal (codes "EmptyMember") name
refusal_of_bundle (cause.TooLong name) = named_refusal (codes "TooLong") name
refusal_of_bundle (cause.AddressTooHigh name) = named_refusal (codes "AddressTooHigh") name
refusal_of_bundle (cause.Link name error) = inner_refusal (codes "Link") name (link_error_name error)
refusal_of_bundle cause.NoMemory = codes "bundle NoMemory"

-- the reply to a refusal; want of memory is one too, and may come at any other
abbrev pub IsBundleRefusal : BundleError → Status → List ℕ → Type 0
IsBundleRefusal e s text =
    ((e ≢ cause.NoMemory) × (s ≡ status.BundleRefused) × (text ≡ line (refusal_of_bundle e))) ⊎ ((s ≡ status.NoMemory) × (text ≡ line (codes "no memory")))

-- The text of `bundle`: the functions' image in lower-case hex, and a line feed. No name comes twice, and no emission, place or linking has a cause to refuse one of
-- them. A machine that fetches the image does only what the functions and their calls of each other allow
pub record IsBundleImage (base : ℕ) (input text : List ℕ) : Type 0 where
  pub functions : List NamedJob
  pub are : AreFunctionsOf input functions
  pub bundle : Bundle
  pub image : IsImageOfMembers base (map member_of functions) bundle
  pub spelled : text ≡ line (encode_lower bundle.image.bytes.items)

-- the functions have no image, by their first cause
pub record IsUnbundled (base : ℕ) (input text : List ℕ) : Type 0 where
  pub functions : List NamedJob
  pub are : AreFunctionsOf input functions
  pub error : BundleError
  pub named : error ≢ cause.NoMemory
  pub cause : HasNoImage base (map member_of functions) error
  pub spelled : text ≡ line (refusal_of_bundle error)

-- the input is the text of no functions, and this is its first wrong line
pub record IsBundleSyntax (input text : List ℕ) : Type 0 where
  pub none : IsBundleText input → ⊥
  pub number : ℕ
  pub first : IsFirstWrongOfBundle (pieces input) number
  pub spelled : text ≡ line (codes "syntax " ++ decimal number)

-- the answer to `bundle` and its whole input
abbrev pub IsBundleAnswer : (base : ℕ) → List ℕ → Status → List ℕ → Type 0
IsBundleAnswer base input status.Ok text = IsBundleImage base input text
IsBundleAnswer base input status.BundleRefused text = IsUnbundled base input text
IsBundleAnswer base input status.Syntax text = IsBundleSyntax input text
IsBundleAnswer base input status.NoMemory text = text ≡ line (codes "no memory")
IsBundleAnswer base input s text = ⊥

-- no name of these members comes twice, emission refuses none, and where they are emitted each one has a place and can be linked there
pub record CanBeBundled (base : ℕ) (members : List Member) : Type 0 where
  pub names : duplicate_of members ≡ None
  pub valid : first_refused members ≡ None
  pub placed : (codes : List MachBufferFinalized) → AreEmitted members codes → misplaced_member base codes ≡ None
  pub linked : (codes : List MachBufferFinalized) → AreEmitted members codes → unlinked_member base members codes ≡ None

-- the input is the text of functions, which nothing keeps from standing in one image
pub record IsBundleAccepted (base : ℕ) (input : List ℕ) : Type 0 where
  pub short : length input ≤ most_bytes
  pub functions : List NamedJob
  pub are : AreFunctions functions
  pub spelled : text_of_functions functions ≡ input
  pub bundled : CanBeBundled base (map member_of functions)
