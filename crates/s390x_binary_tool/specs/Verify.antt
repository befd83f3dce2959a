-- What is told of whether bytes are a job's image.
use Rattle.std.specs.Prelude.{◌≡◌, ℕ, ◌+◌, ◌⊎◌, List, [], ◌++◌, codes, drop, length, take}
use Rattle.std.specs.Fmt.{decimal}
use Rattle.s390x_emit_int.specs.FunctionImage.{IsImageOf, IsLinkRefused}
use Rattle.s390x_image.specs.declared.error.LinkError.{LinkError}
use Rattle.s390x_job.specs.Completions.{IsFirstWrong, IsText, pieces}
use Rattle.s390x_job.specs.Jobs.{IsJob, text_of_job}
use Rattle.s390x_job.specs.Same.{SameJob}
use Rattle.s390x_job.specs.declared.job.Job.{Job}
use Rattle.s390x_job_bundle.specs.Cut.{IsCutAt}
use Rattle.s390x_tool.specs.Answers.{IsRefused, symbols_of}
use Rattle.s390x_tool.specs.Lines.{line, link_error_name}
use Rattle.s390x_tool.specs.declared.status.Status.TheVariants as status
use Rattle.s390x_binary_tool.specs.ImageText.{IsImageText, IsWrongLine, common_length}
use Rattle.s390x_binary_tool.specs.declared.status.BinaryStatus.{BinaryStatus}
use Rattle.s390x_binary_tool.specs.declared.status.BinaryStatus.TheVariants.{Shared, Differs}

-- these bytes are the job's image at the base: neither emission nor linking refuses it, and a machine that fetches them there does only what its typed instructions
-- allow
abbrev pub IsJobImage : (base : ℕ) → Job → List ℕ → Type 0
IsJobImage base j bytes = IsImageOf j.info.isa_flags j.state j.function base (symbols_of j) bytes

-- the job has an image, which isn't these bytes: they differ first at this number, or end there, or the image does
pub record IsOtherImage (base : ℕ) (j : Job) (given text : List ℕ) : Type 0 where
  pub bytes : List ℕ
  pub image : IsJobImage base j bytes
  pub other : IsJobImage base j given → ⊥
  pub spelled : text ≡ line (codes "differs " ++ decimal (common_length bytes given))

-- linking refuses the job's code by its first cause
pub record IsLinkRefusedJob (base : ℕ) (j : Job) (text : List ℕ) : Type 0 where
  pub error : LinkError
  pub cause : IsLinkRefused j.info.isa_flags j.state j.function base (symbols_of j) error
  pub spelled : text ≡ line (codes "link " ++ link_error_name error)

-- the reply to a job and these bytes
abbrev pub IsVerifyReply : (base : ℕ) → Job → List ℕ → BinaryStatus → List ℕ → Type 0
IsVerifyReply base j given (Shared status.Ok) text = IsJobImage base j given × (text ≡ [])
IsVerifyReply base j given Differs text = IsOtherImage base j given text
IsVerifyReply base j given (Shared status.Refused) text = IsRefused j text
IsVerifyReply base j given (Shared status.LinkRefused) text = IsLinkRefusedJob base j text
IsVerifyReply base j given (Shared status.NoMemory) text = text ≡ line (codes "no memory")
IsVerifyReply base j given s text = ⊥

-- the input is the text of this job, and behind it lines of hex digits that write these bytes
pub record IsVerifyText (input : List ℕ) (j : Job) (given : List ℕ) : Type 0 where
  pub is : IsJob j
  pub behind : List ℕ
  pub spelled : input ≡ text_of_job j ++ behind
  pub hex : IsImageText behind given

-- the input is the text of a job and of bytes, no others', and this is the reply to them
pub record IsVerified (base : ℕ) (input : List ℕ) (s : BinaryStatus) (text : List ℕ) : Type 0 where
  pub job : Job
  pub given : List ℕ
  pub are : IsVerifyText input job given
  pub one : (j : Job) (others : List ℕ) → IsVerifyText input j others → SameJob job j × (others ≡ given)
  pub reply : IsVerifyReply base job given s text

-- the first so many bytes, up to and with the first line `end`, are this job's text, the only one's
pub record IsCutJob (input : List ℕ) (size : ℕ) (j : Job) : Type 0 where
  pub cut : IsCutAt input size
  pub is : IsJob j
  pub spelled : text_of_job j ≡ take size input
  pub one : (k : Job) → IsJob k → text_of_job k ≡ take size input → SameJob j k

-- The first wrong line: of the part up to and with the first line `end`, where that is no job's text; else of what stands behind it.
pub record IsFirstWrongOfVerify (input : List ℕ) (number : ℕ) : Type 0 where
  pub size : ℕ
  pub cut : IsCutAt input size
  pub wrong : ((IsText (take size input) → ⊥) × IsFirstWrong (pieces (take size input)) number)
      ⊎ (IsText (take size input) × (m : ℕ) × (number ≡ length (pieces (take size input)) + m) × IsWrongLine (drop size input) m)

-- the input is the text of no job with bytes behind it, and this is its first wrong line
pub record IsVerifySyntax (input text : List ℕ) : Type 0 where
  pub none : (j : Job) (given : List ℕ) → IsVerifyText input j given → ⊥
  pub number : ℕ
  pub first : IsFirstWrongOfVerify input number
  pub spelled : text ≡ line (codes "syntax " ++ decimal number)

-- the answer to `verify` and its whole input
abbrev pub IsVerifyAnswer : (base : ℕ) → List ℕ → BinaryStatus → List ℕ → Type 0
IsVerifyAnswer base input (Shared status.Syntax) text = IsVerifySyntax input text
IsVerifyAnswer base input (Shared status.NoMemory) text = text ≡ line (codes "no memory")
IsVerifyAnswer base input s text = IsVerified base input s text
