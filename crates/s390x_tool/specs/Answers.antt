-- The answers to a command and its whole input.
use Rattle.std.specs.Prelude.{ℕ, ◌≡◌, ◌≤◌, List, ◌++◌, length, codes, Option, Some, None}
use Rattle.std.specs.Fmt.{decimal}
use Rattle.hex.specs.Hex.{encode_lower}
use Rattle.s390x_base.specs.declared.error.EmitError.{EmitError}
use Rattle.s390x_buffer.specs.declared.entries.MachBufferFinalized.{MachBufferFinalized}
use Rattle.s390x_emit_int.specs.Function.{IsFinishedCode, function_cause, folded_trees_of, trees_of, constants_of}
use Rattle.s390x_emit_int.specs.Headline.{RunsAsTyped}
use Rattle.s390x_typed_steps.specs.Ranges.{BlocksInRange}
use Rattle.s390x_image.specs.declared.error.LinkError.{LinkError}
use Rattle.s390x_image.specs.Causes.{link_cause}
use Rattle.s390x_image.specs.Fields.{with_fields_filled}
use Rattle.s390x_image.specs.Symbols.{Symbols, no_symbols}
use Rattle.s390x_bundle.specs.Table.{with_lines}
use Rattle.s390x_job.specs.Jobs.{text_of_job, IsJob}
use Rattle.s390x_job.specs.Same.{SameJob}
use Rattle.s390x_job.specs.Completions.{pieces, IsFirstWrong}
use Rattle.s390x_job.specs.declared.job.Job.{Job}
use Rattle.s390x_execution.specs.Text.{IsRunText}
use Rattle.s390x_tool.specs.Emitted.{emit_text}
use Rattle.s390x_operands.specs.declared.constraint.OperandError.{OperandError}
use Rattle.s390x_text_rows.specs.Texts.{Text}
use Rattle.s390x_listing.specs.Operands.{operands_listing}
use Rattle.s390x_listing.specs.Texts.{texts_listing}
use Rattle.s390x_tool.specs.Ends.{most_bytes}
use Rattle.s390x_tool.specs.Lines.{line, error_name, link_error_name, operand_error_name}
use Rattle.s390x_tool.specs.declared.words.JobCommand.{JobCommand}
use Rattle.s390x_tool.specs.declared.words.JobCommand.TheVariants.{Image, Emit, Run, Operands, Show}
use Rattle.s390x_tool.specs.declared.status.Status.{Status}
use Rattle.s390x_tool.specs.declared.status.Status.TheVariants as status

-- the addresses of a job's symbols
abbrev pub symbols_of : Job → Symbols
symbols_of j = with_lines no_symbols j.symbols.items

-- the first cause by which emission refuses a job's function
abbrev pub job_cause : Job → Option EmitError
job_cause j = function_cause j.info.isa_flags (trees_of j.info.isa_flags j.state j.function) (constants_of j.function) j.state

-- the code of a job's function, which isn't refused and whose numbers lie in their ranges
pub record IsCodeOfJob (j : Job) (code : MachBufferFinalized) : Type 0 where
  pub valid : job_cause j ≡ None
  pub ranges : BlocksInRange (trees_of j.info.isa_flags j.state j.function)
  pub emitted : IsFinishedCode (folded_trees_of j.info.isa_flags j.state j.function) (constants_of j.function) code

-- the first cause by which linking refuses a job's code at a base
abbrev pub link_cause_of : ℕ → Job → MachBufferFinalized → Option LinkError
link_cause_of base j code = link_cause code base (symbols_of j)

-- the image of a job's function at a base: its code and constants, with the relocations' fields filled
pub record IsImageAt (base : ℕ) (j : Job) (bytes : List ℕ) : Type 0 where
  pub code : MachBufferFinalized
  pub is : IsCodeOfJob j code
  pub linked : link_cause_of base j code ≡ None
  pub filled : bytes ≡ with_fields_filled base (symbols_of j) code.relocs.items code.bytes.items

-- The text of `image`: the image in lower-case hex, and a line feed. A machine that fetches the image at the base from any
-- block's start or from any call's return place does only what the job's typed instructions allow, in every state in which it
-- lies in memory, and under every list of others' writes, until it returns, calls, stops by a trap or at a `Debugtrap`, or a
-- typed step is wrong.
pub record IsImageText (base : ℕ) (j : Job) (text : List ℕ) : Type 0 where
  pub bytes : List ℕ
  pub image : IsImageAt base j bytes
  pub runs : RunsAsTyped (symbols_of j) (folded_trees_of j.info.isa_flags j.state j.function) (constants_of j.function) (record { base = base; bytes = bytes })
  pub spelled : text ≡ line (encode_lower bytes)

-- emission refuses the job's function by its first cause
pub record IsRefused (j : Job) (text : List ℕ) : Type 0 where
  pub error : EmitError
  pub cause : job_cause j ≡ Some error
  pub spelled : text ≡ line (codes "refused " ++ error_name error)

-- linking refuses the job's code by its first cause
pub record IsLinkRefused (base : ℕ) (j : Job) (text : List ℕ) : Type 0 where
  pub code : MachBufferFinalized
  pub is : IsCodeOfJob j code
  pub error : LinkError
  pub cause : link_cause_of base j code ≡ Some error
  pub spelled : text ≡ line (codes "link " ++ link_error_name error)

-- the reply of `image` to a job
abbrev pub IsImageReply : ℕ → Job → Status → List ℕ → Type 0
IsImageReply base j status.Ok text = IsImageText base j text
IsImageReply base j status.Refused text = IsRefused j text
IsImageReply base j status.LinkRefused text = IsLinkRefused base j text
IsImageReply base j status.NoMemory text = text ≡ line (codes "no memory")
IsImageReply base j s text = ⊥

-- the text of `emit`: the lines of the code of a job's function
pub record IsEmitText (j : Job) (text : List ℕ) : Type 0 where
  pub code : MachBufferFinalized
  pub is : IsCodeOfJob j code
  pub spelled : text ≡ emit_text code

-- the reply of `emit` to a job
abbrev pub IsEmitReply : Job → Status → List ℕ → Type 0
IsEmitReply j status.Ok text = IsEmitText j text
IsEmitReply j status.Refused text = IsRefused j text
IsEmitReply j status.NoMemory text = text ≡ line (codes "no memory")
IsEmitReply j s text = ⊥

-- the image of a job's code at a base: linking has no cause to refuse it, and its relocations' fields are filled
pub record IsLinked (base : ℕ) (j : Job) (code : MachBufferFinalized) (bytes : List ℕ) : Type 0 where
  pub linked : link_cause_of base j code ≡ None
  pub filled : bytes ≡ with_fields_filled base (symbols_of j) code.relocs.items code.bytes.items

-- The text of `run`: the machine takes at most so many steps, from the base on, with the job's registers and memory and its image in memory.
pub record IsExecuted (base steps : ℕ) (j : Job) (text : List ℕ) : Type 0 where
  pub code : MachBufferFinalized
  pub is : IsCodeOfJob j code
  pub bytes : List ℕ
  pub image : IsLinked base j code bytes
  pub spelled : IsRunText base steps j code bytes text

-- the reply of `run` to a job
abbrev pub IsRunReply : (base steps : ℕ) → Job → Status → List ℕ → Type 0
IsRunReply base steps j status.Ok text = IsExecuted base steps j text
IsRunReply base steps j status.Refused text = IsRefused j text
IsRunReply base steps j status.LinkRefused text = IsLinkRefused base j text
IsRunReply base steps j status.NoMemory text = text ≡ line (codes "no memory")
IsRunReply base steps j s text = ⊥

-- the first cause by which the operands of a job's instructions aren't reported
abbrev pub operands_cause_of : Job → Option OperandError
operands_cause_of j = (operands_listing j.function.blocks.items).cause

-- the text of `operands`: the listing of what the job's instructions report, all of which can be reported
pub record IsOperandsText (j : Job) (text : List ℕ) : Type 0 where
  pub valid : operands_cause_of j ≡ None
  pub spelled : text ≡ (operands_listing j.function.blocks.items).bytes

-- the operands of an instruction aren't reported, by the first cause
pub record IsOperandsRefused (j : Job) (text : List ℕ) : Type 0 where
  pub error : OperandError
  pub cause : operands_cause_of j ≡ Some error
  pub spelled : text ≡ line (codes "refused " ++ operand_error_name error)

-- the reply of `operands` to a job
abbrev pub IsOperandsReply : Job → Status → List ℕ → Type 0
IsOperandsReply j status.Ok text = IsOperandsText j text
IsOperandsReply j status.Refused text = IsOperandsRefused j text
IsOperandsReply j status.NoMemory text = text ≡ line (codes "no memory")
IsOperandsReply j s text = ⊥

-- the listing of the texts of a job's instructions
abbrev pub texts_of : Job → Text
texts_of j = texts_listing j.info.isa_flags j.state j.function.blocks.items

-- the text of `show`: emission has no cause to refuse the job's function, and this is the listing of its instructions' texts, all of which have one
pub record IsShownText (j : Job) (text : List ℕ) : Type 0 where
  pub valid : job_cause j ≡ None
  pub told : (texts_of j).cause ≡ None
  pub spelled : text ≡ (texts_of j).bytes

-- the reply of `show` to a job
abbrev pub IsShowReply : Job → Status → List ℕ → Type 0
IsShowReply j status.Ok text = IsShownText j text
IsShowReply j status.Refused text = IsRefused j text
IsShowReply j status.NoMemory text = text ≡ line (codes "no memory")
IsShowReply j s text = ⊥

-- the reply of a command to a job
abbrev pub IsJobReply : JobCommand → Job → Status → List ℕ → Type 0
IsJobReply (Image base) j s text = IsImageReply base j s text
IsJobReply Emit j s text = IsEmitReply j s text
IsJobReply (Run base steps) j s text = IsRunReply base steps j s text
IsJobReply Operands j s text = IsOperandsReply j s text
IsJobReply Show j s text = IsShowReply j s text

-- the input is the text of a job, the only one, and this is the command's reply to it
pub record IsJobAnswer (command : JobCommand) (input : List ℕ) (s : Status) (text : List ℕ) : Type 0 where
  pub job : Job
  pub is : IsJob job
  pub spelled : text_of_job job ≡ input
  pub one : (j : Job) → IsJob j → text_of_job j ≡ input → SameJob job j
  pub reply : IsJobReply command job s text

-- the input is the text of no job, and this is its first wrong line
pub record IsSyntax (input text : List ℕ) : Type 0 where
  pub no_job : (j : Job) → IsJob j → text_of_job j ≡ input → ⊥
  pub number : ℕ
  pub first : IsFirstWrong (pieces input) number
  pub spelled : text ≡ line (codes "syntax " ++ decimal number)

-- the answer to a command and its whole input
abbrev pub IsAnswer : JobCommand → List ℕ → Status → List ℕ → Type 0
IsAnswer command input status.Syntax text = IsSyntax input text
IsAnswer command input status.NoMemory text = text ≡ line (codes "no memory")
IsAnswer command input s text = IsJobAnswer command input s text

-- linking has no cause to refuse the job's code, where the command links it
abbrev pub Links : JobCommand → Job → Type 0
Links (Image base) j = (code : MachBufferFinalized) → IsCodeOfJob j code → link_cause_of base j code ≡ None
Links Emit j = Unit {0}
Links (Run base steps) j = (code : MachBufferFinalized) → IsCodeOfJob j code → link_cause_of base j code ≡ None
Links Operands j = Unit {0}
Links Show j = Unit {0}

-- nothing refuses the job: emission has no cause to refuse its function; for `operands` nothing keeps the operands of its instructions from
-- being reported
abbrev pub IsUnrefused : JobCommand → Job → Type 0
IsUnrefused (Image base) j = job_cause j ≡ None
IsUnrefused Emit j = job_cause j ≡ None
IsUnrefused (Run base steps) j = job_cause j ≡ None
IsUnrefused Operands j = operands_cause_of j ≡ None
IsUnrefused Show j = job_cause j ≡ None

-- the input is the text of a job, which nothing refuses, nor its linking, where the command links it
pub record IsAccepted (command : JobCommand) (input : List ℕ) : Type 0 where
  pub short : length input ≤ most_bytes
  pub job : Job
  pub is : IsJob job
  pub spelled : text_of_job job ≡ input
  pub valid : IsUnrefused command job
  pub links : Links command job
