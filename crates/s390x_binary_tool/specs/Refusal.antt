-- What is told of where emission refuses a job.
use Rattle.std.specs.Prelude.{◌≡◌, ℕ, List, [], ◌∷◌, ◌++◌, codes, Some, None}
use Rattle.std.specs.Fmt.{decimal}
use Rattle.s390x_base.specs.declared.error.EmitError.{EmitError}
use Rattle.s390x_job.specs.declared.job.Job.{Job}
use Rattle.s390x_refusal.specs.Refusal.{IsRefusedBy}
use Rattle.s390x_refusal.specs.declared.position.Position.{Position}
use Rattle.s390x_refusal.specs.declared.position.Position.TheVariants.{Start, Instruction, BlockEnd, Length}
use Rattle.s390x_tool.specs.Answers.{IsSyntax, job_cause}
use Rattle.s390x_tool.specs.Lines.{error_name, line}
use Rattle.s390x_tool.specs.declared.status.Status.TheVariants as status
use Rattle.s390x_binary_tool.specs.OneJob.{IsOneJob}
use Rattle.s390x_binary_tool.specs.declared.status.BinaryStatus.{BinaryStatus}
use Rattle.s390x_binary_tool.specs.declared.status.BinaryStatus.TheVariants.{Shared}

-- each number behind a point
abbrev pub more_numbers : List ℕ → List ℕ
more_numbers [] = []
more_numbers (n ∷ ns) = (46 ∷ decimal n) ++ more_numbers ns

-- the numbers of a path, with a point between them
abbrev pub path_text : List ℕ → List ℕ
path_text [] = []
path_text (n ∷ ns) = decimal n ++ more_numbers ns

-- `start`, `block B inst I.J.K`, `block B end` or `length`
abbrev pub position_text : Position → List ℕ
position_text Start = codes "start"
position_text (Instruction b path) = codes "block " ++ (decimal b ++ (codes " inst " ++ path_text path.items))
position_text (BlockEnd b) = codes "block " ++ (decimal b ++ codes " end")
position_text Length = codes "length"

-- `refusal`, the cause and its place
abbrev pub refusal_line : EmitError → Position → List ℕ
refusal_line error position = line (codes "refusal " ++ (error_name error ++ (32 ∷ position_text position)))

-- emission refuses the job's function by its first cause, which stands at this place, and nothing before it has a cause
pub record IsPlacedRefusal (j : Job) (text : List ℕ) : Type 0 where
  pub error : EmitError
  pub position : Position
  pub cause : job_cause j ≡ Some error
  pub place : IsRefusedBy j.info.isa_flags j.state j.function error position
  pub spelled : text ≡ refusal_line error position

-- the reply to a job
abbrev pub IsRefusalReply : Job → BinaryStatus → List ℕ → Type 0
IsRefusalReply j (Shared status.Ok) text = (job_cause j ≡ None) × (text ≡ line (codes "none"))
IsRefusalReply j (Shared status.Refused) text = IsPlacedRefusal j text
IsRefusalReply j (Shared status.NoMemory) text = text ≡ line (codes "no memory")
IsRefusalReply j s text = ⊥

-- the answer to `refusal` and its whole input
abbrev pub IsRefusalAnswer : List ℕ → BinaryStatus → List ℕ → Type 0
IsRefusalAnswer input (Shared status.Syntax) text = IsSyntax input text
IsRefusalAnswer input (Shared status.NoMemory) text = text ≡ line (codes "no memory")
IsRefusalAnswer input s text = IsOneJob (λ j. IsRefusalReply j s text) input
