-- What is told as the listing of a job.
use Rattle.std.specs.Prelude.{◌≡◌, ℕ, List, codes}
use Rattle.s390x_buffer.specs.declared.entries.MachBufferFinalized.{MachBufferFinalized}
use Rattle.s390x_binary_tool.specs.CodeListing.{IsCodeListing}
use Rattle.s390x_job.specs.declared.job.Job.{Job}
use Rattle.s390x_tool.specs.Answers.{IsCodeOfJob, IsLinked, IsLinkRefused, IsRefused, IsSyntax}
use Rattle.s390x_tool.specs.Lines.{line}
use Rattle.s390x_tool.specs.declared.status.Status.TheVariants as status
use Rattle.s390x_binary_tool.specs.OneJob.{IsOneJob}
use Rattle.s390x_binary_tool.specs.declared.status.BinaryStatus.{BinaryStatus}
use Rattle.s390x_binary_tool.specs.declared.status.BinaryStatus.TheVariants.{Shared}

-- the text is the listing of the image of the job's code at the base, beside the job's instructions
pub record IsListedJob (base : ℕ) (j : Job) (text : List ℕ) : Type 0 where
  pub code : MachBufferFinalized
  pub is : IsCodeOfJob j code
  pub bytes : List ℕ
  pub image : IsLinked base j code bytes
  pub listing : IsCodeListing j.info.isa_flags j.state j.function.blocks.items code base bytes text

-- the reply to a job
abbrev pub IsListReply : (base : ℕ) → Job → BinaryStatus → List ℕ → Type 0
IsListReply base j (Shared status.Ok) text = IsListedJob base j text
IsListReply base j (Shared status.Refused) text = IsRefused j text
IsListReply base j (Shared status.LinkRefused) text = IsLinkRefused base j text
IsListReply base j (Shared status.NoMemory) text = text ≡ line (codes "no memory")
IsListReply base j s text = ⊥

-- the answer to `list` and its whole input
abbrev pub IsListAnswer : (base : ℕ) → List ℕ → BinaryStatus → List ℕ → Type 0
IsListAnswer base input (Shared status.Syntax) text = IsSyntax input text
IsListAnswer base input (Shared status.NoMemory) text = text ≡ line (codes "no memory")
IsListAnswer base input s text = IsOneJob (λ j. IsListReply base j s text) input
