-- What is replied to the words and the input, and how it is written.
use Rattle.std.specs.Prelude.{ℕ, ◌≡◌, List, codes, Option, ◌⊎◌}
use Rattle.std.specs.Io.KnownBytes.{Appends}
use Rattle.s390x_tool.specs.Causes.{FaultCountRose}
use Rattle.s390x_tool.specs.Ends.{IsCutShort, IsPartRead, IsRead, IsTooLong, most_bytes, too_many}
use Rattle.s390x_tool.specs.Lines.{line}
use Rattle.s390x_tool.specs.Replies.{CallContext}
use Rattle.s390x_tool.specs.declared.status.Status.TheVariants as status
use Rattle.s390x_binary_tool.specs.Words.{IsForm, IsNoForm, object_name}
use Rattle.s390x_binary_tool.specs.declared.words.Command.{Command}
use Rattle.s390x_binary_tool.specs.declared.words.Command.TheVariants.{Refusal, Verify, Disassemble, Assemble, Listing, Object, Objects}
use Rattle.s390x_binary_tool.specs.Assemble.{IsAssembleAnswer}
use Rattle.s390x_binary_tool.specs.Disassemble.{IsDisassembleAnswer}
use Rattle.s390x_binary_tool.specs.Listing.{IsListAnswer}
use Rattle.s390x_binary_tool.specs.Object.{IsObjectAnswer}
use Rattle.s390x_binary_tool.specs.Objects.{IsObjectsAnswer}
use Rattle.s390x_binary_tool.specs.Refusal.{IsRefusalAnswer}
use Rattle.s390x_binary_tool.specs.Verify.{IsVerifyAnswer}
use Rattle.s390x_binary_tool.specs.declared.status.BinaryStatus.{BinaryStatus}
use Rattle.s390x_binary_tool.specs.declared.status.BinaryStatus.TheVariants.{Shared}

-- the words are no command, and nothing was read
pub record IsUsage (f : CallContext) : Type 0 where
  pub none : IsNoForm f.words
  pub kept : f.left' ≡ f.left
  pub same : f.faults' ≡ f.faults

-- the words are a command, and a read failed, after others of not too many bytes; the source has left what stands behind them
pub record IsReadFault (f : CallContext) : Type 0 where
  pub command : Command
  pub form : IsForm f.words command
  pub part : IsPartRead f.left f.left' most_bytes
  pub rose : FaultCountRose f.faults f.faults'

-- the words are a command, and too many bytes came
pub record IsInputTooLong (f : CallContext) : Type 0 where
  pub command : Command
  pub form : IsForm f.words command
  pub long : IsTooLong f.left f.left'
  pub same : f.faults' ≡ f.faults

-- the words are a command, and memory didn't suffice, for the input or for its answer
pub record IsOutOfMemory (f : CallContext) : Type 0 where
  pub command : Command
  pub form : IsForm f.words command
  pub part : IsPartRead f.left f.left' too_many
  pub same : f.faults' ≡ f.faults

-- the answer to a command, which these words are, and its whole input
abbrev pub IsInputAnswer : Command → (words : List (List ℕ)) → (input : List ℕ) → BinaryStatus → List ℕ → Type 0
IsInputAnswer Refusal words input s text = IsRefusalAnswer input s text
IsInputAnswer (Verify base) words input s text = IsVerifyAnswer base input s text
IsInputAnswer (Disassemble base) words input s text = IsDisassembleAnswer base input s text
IsInputAnswer (Assemble base) words input s text = IsAssembleAnswer base input s text
IsInputAnswer (Listing base) words input s text = IsListAnswer base input s text
IsInputAnswer Object words input s text = IsObjectAnswer (object_name words) input s text
IsInputAnswer Objects words input s text = IsObjectsAnswer input s text

-- the words are a command, the source was read to its end, and this is the answer to what it held
pub record IsAnswered (f : CallContext) (s : BinaryStatus) (text : List ℕ) : Type 0 where
  pub command : Command
  pub form : IsForm f.words command
  pub input : List ℕ
  pub read : IsRead f.left f.left' input
  pub same : f.faults' ≡ f.faults
  pub answer : IsInputAnswer command f.words input s text

-- the status and the text that are replied
abbrev pub IsReply : CallContext → BinaryStatus → List ℕ → Type 0
IsReply f (Shared status.Usage) text = IsUsage f × (text ≡ line (codes "usage"))
IsReply f (Shared status.ReadFault) text = IsReadFault f × (text ≡ line (codes "read fault"))
IsReply f (Shared status.InputTooLong) text = IsInputTooLong f × (text ≡ line (codes "input too long"))
IsReply f (Shared status.NoMemory) text = IsOutOfMemory f × (text ≡ line (codes "no memory"))
IsReply f (Shared status.WriteFault) text = ⊥
IsReply f s text = IsAnswered f s text

-- the whole text was written and the status is the reply's; or a write failed, and a prefix of the text was written
abbrev pub IsDelivered : Option (List ℕ) → Option (List ℕ) → ℕ → ℕ → BinaryStatus → List ℕ → BinaryStatus → Type 0
IsDelivered told told' faults faults' s text result =
    ((result ≡ s) × Appends told told' text × (faults' ≡ faults))
    ⊎ ((result ≡ Shared status.WriteFault) × IsCutShort told told' text × FaultCountRose faults faults')

-- how a call ended: what was replied, and how it was written
pub record IsEnded (f : CallContext) (told told' : Option (List ℕ)) (faults faults' : ℕ) (result : BinaryStatus) : Type 0 where
  pub status : BinaryStatus
  pub text : List ℕ
  pub reply : IsReply f status text
  pub delivered : IsDelivered told told' faults faults' status text result

-- all was done: the source was read to its end and the command's text for what it held was told, and nothing else
pub record IsDone (f : CallContext) (told told' : Option (List ℕ)) : Type 0 where
  pub text : List ℕ
  pub reply : IsAnswered f (Shared status.Ok) text
  pub appended : Appends told told' text
