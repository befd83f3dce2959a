-- What is replied to the words and the input, and how it is written.
use Rattle.std.specs.Prelude.{ℕ, ◌≡◌, List, codes, Option, ◌⊎◌}
use Rattle.std.specs.Io.KnownBytes.{Appends}
use Rattle.s390x_tool.specs.Causes.{FaultCountRose}
use Rattle.s390x_tool.specs.Ends.{IsPartRead, IsRead, IsTooLong, IsCutShort, most_bytes, too_many}
use Rattle.s390x_tool.specs.Words.{IsForm, IsNoForm}
use Rattle.s390x_tool.specs.Allocated.{IsAllocateAnswer}
use Rattle.s390x_tool.specs.Answers.{IsAnswer}
use Rattle.s390x_tool.specs.Bundled.{IsBundleAnswer}
use Rattle.s390x_tool.specs.Generated.{IsGeneratedText}
use Rattle.s390x_tool.specs.Lines.{line}
use Rattle.s390x_tool.specs.Simulated.{IsSimulateReply}
use Rattle.s390x_tool.specs.declared.words.Command.{Command}
use Rattle.s390x_tool.specs.declared.words.Command.TheVariants.{OnJob, Generate, Simulate, Allocate, Bundle}
use Rattle.s390x_tool.specs.declared.status.Status.{Status}
use Rattle.s390x_tool.specs.declared.status.Status.TheVariants as status

-- what a call found: the words, what the source had left before and after, and its count of faults before and after
pub record CallContext : Type 0 where
  pub words : List (List ℕ)
  pub left : Option (List ℕ)
  pub left' : Option (List ℕ)
  pub faults : ℕ
  pub faults' : ℕ

abbrev pub call_context : (words : List (List ℕ)) → (left left' : Option (List ℕ)) → (faults faults' : ℕ) → CallContext
call_context words left left' faults faults' = record { words = words; left = left; left' = left'; faults = faults; faults' = faults' }

-- the words are no command, and nothing was read
pub record IsUsage (f : CallContext) : Type 0 where
  pub none : IsNoForm f.words
  pub kept : f.left' ≡ f.left
  pub same : f.faults' ≡ f.faults

-- the command is about what the source holds
abbrev pub IsAboutInput : Command → Type 0
IsAboutInput (OnJob command) = Unit {0}
IsAboutInput (Generate count start) = ⊥
IsAboutInput (Simulate base word count steps start) = ⊥
IsAboutInput Allocate = Unit {0}
IsAboutInput (Bundle base) = Unit {0}

-- the answer to a command about what the source holds, and to all of that
abbrev pub IsInputAnswer : Command → List ℕ → Status → List ℕ → Type 0
IsInputAnswer (OnJob command) input s text = IsAnswer command input s text
IsInputAnswer (Generate count start) input s text = ⊥
IsInputAnswer (Simulate base word count steps start) input s text = ⊥
IsInputAnswer Allocate input s text = IsAllocateAnswer input s text
IsInputAnswer (Bundle base) input s text = IsBundleAnswer base input s text

-- the words are a command about the input, and a read failed, after others of not too many bytes; the source has left what stands behind them
pub record IsReadFault (f : CallContext) : Type 0 where
  pub command : Command
  pub form : IsForm f.words command
  pub about : IsAboutInput command
  pub part : IsPartRead f.left f.left' most_bytes
  pub rose : FaultCountRose f.faults f.faults'

-- the words are a command about the input, and too many bytes came
pub record IsInputTooLong (f : CallContext) : Type 0 where
  pub command : Command
  pub form : IsForm f.words command
  pub about : IsAboutInput command
  pub long : IsTooLong f.left f.left'
  pub same : f.faults' ≡ f.faults

-- how much is read at most: a part of the input for a command about it, and else nothing
abbrev pub IsReadFor : Command → CallContext → Type 0
IsReadFor (OnJob command) f = IsPartRead f.left f.left' too_many
IsReadFor (Generate count start) f = f.left' ≡ f.left
IsReadFor (Simulate base word count steps start) f = f.left' ≡ f.left
IsReadFor Allocate f = IsPartRead f.left f.left' too_many
IsReadFor (Bundle base) f = IsPartRead f.left f.left' too_many

-- the words are a command, and memory didn't suffice
pub record IsOutOfMemory (f : CallContext) : Type 0 where
  pub command : Command
  pub form : IsForm f.words command
  pub left : IsReadFor command f
  pub same : f.faults' ≡ f.faults

-- the words are a command about the input, the source was read to its end, and this is the answer to what it held
pub record IsAnswered (f : CallContext) (s : Status) (text : List ℕ) : Type 0 where
  pub command : Command
  pub form : IsForm f.words command
  pub input : List ℕ
  pub read : IsRead f.left f.left' input
  pub same : f.faults' ≡ f.faults
  pub answer : IsInputAnswer command input s text

-- the words ask for a generated function, nothing was read, and this is what is told of it
pub record IsGeneratedReply (f : CallContext) (text : List ℕ) : Type 0 where
  pub count : ℕ
  pub start : ℕ
  pub form : IsForm f.words (Generate count start)
  pub kept : f.left' ≡ f.left
  pub same : f.faults' ≡ f.faults
  pub told : IsGeneratedText count start text

-- the words ask for a simulation, nothing was read, and this is its reply
pub record IsSimulationReply (f : CallContext) (s : Status) (text : List ℕ) : Type 0 where
  pub base : ℕ
  pub word : ℕ
  pub count : ℕ
  pub steps : ℕ
  pub start : ℕ
  pub form : IsForm f.words (Simulate base word count steps start)
  pub kept : f.left' ≡ f.left
  pub same : f.faults' ≡ f.faults
  pub told : IsSimulateReply base word count steps start s text

-- the reply where all was done
abbrev pub IsOkReply : CallContext → List ℕ → Type 0
IsOkReply f text = IsAnswered f status.Ok text ⊎ (IsGeneratedReply f text ⊎ IsSimulationReply f status.Ok text)

-- the status and the text that are replied
abbrev pub IsReply : CallContext → Status → List ℕ → Type 0
IsReply f status.Usage text = IsUsage f × (text ≡ line (codes "usage"))
IsReply f status.ReadFault text = IsReadFault f × (text ≡ line (codes "read fault"))
IsReply f status.InputTooLong text = IsInputTooLong f × (text ≡ line (codes "input too long"))
IsReply f status.NoMemory text = IsOutOfMemory f × (text ≡ line (codes "no memory"))
IsReply f status.WriteFault text = ⊥
IsReply f status.Ok text = IsOkReply f text
IsReply f status.LinkRefused text = IsAnswered f status.LinkRefused text ⊎ IsSimulationReply f status.LinkRefused text
IsReply f status.BadWord text = IsSimulationReply f status.BadWord text
IsReply f s text = IsAnswered f s text

-- the whole text was written and the status is the reply's; or a write failed, and a prefix of the text was written
abbrev pub IsDelivered : Option (List ℕ) → Option (List ℕ) → ℕ → ℕ → Status → List ℕ → Status → Type 0
IsDelivered told told' faults faults' s text result =
    ((result ≡ s) × Appends told told' text × (faults' ≡ faults))
    ⊎ ((result ≡ status.WriteFault) × IsCutShort told told' text × FaultCountRose faults faults')

-- how a call ended: what was replied, and how it was written
pub record IsEnded (f : CallContext) (told told' : Option (List ℕ)) (faults faults' : ℕ) (result : Status) : Type 0 where
  pub status : Status
  pub text : List ℕ
  pub reply : IsReply f status text
  pub delivered : IsDelivered told told' faults faults' status text result

-- all was done: the source was read to its end and the command's text for what it held was told, or, with nothing read, that for a generated
-- function or a simulation, and nothing else
pub record IsDone (f : CallContext) (told told' : Option (List ℕ)) : Type 0 where
  pub text : List ℕ
  pub reply : IsOkReply f text
  pub appended : Appends told told' text
