-- A reply is that to the command that the words are, and which replies are done.
use Rattle.std.proofs.Common.{◌≡◌, ℕ, ◌⊎◌, inl, inr, List, refl, subst, sym}
use Rattle.std.specs.Prelude.{Option}
use Rattle.s390x_tool.specs.Words.{IsForm}
use Rattle.s390x_tool.proofs.Told.{same_command}
use Rattle.s390x_tool.specs.declared.words.Command.{Command}
use Rattle.s390x_tool.specs.declared.words.Command.TheVariants.{Generate, Simulate}
use Rattle.s390x_tool.specs.Causes.{FaultCountRose}
use Rattle.s390x_tool.specs.Replies.{CallContext, IsAboutInput, IsAnswered, IsDelivered, IsInputAnswer, IsInputTooLong, IsReadFault, IsReply, IsSimulationReply}
use Rattle.s390x_tool.specs.declared.status.Status.{Status}
use Rattle.s390x_tool.specs.declared.status.Status.TheVariants as status

-- the answer is that to this command
pub answered : (f : CallContext) (s : Status) (text : List ℕ) (command : Command) (reply : IsAnswered f s text) → IsForm f.words command → IsInputAnswer command reply.input s text
answered f s text command reply form = subst (λ c. IsInputAnswer c reply.input s text) (same_command f.words reply.command command reply.form form) reply.answer

-- a command that the words are is about the input, where this one is
pub about : (words : List (List ℕ)) (b c : Command) → IsForm words b → IsForm words c → IsAboutInput b → IsAboutInput c
about words b c first second is = subst IsAboutInput (same_command words b c first second) is

-- words that ask for a simulation ask for nothing about the input
pub not_simulation : (f : CallContext) (s : Status) (text : List ℕ) (command : Command) (reply : IsSimulationReply f s text) → IsForm f.words command → IsAboutInput command → ⊥
not_simulation f s text command reply form is = about f.words command (Simulate reply.base reply.word reply.count reply.steps reply.start) form reply.form is

-- nor for a generated function
pub not_generated : (f : CallContext) (s : Status) (text : List ℕ) (count start : ℕ) (reply : IsSimulationReply f s text) → IsForm f.words (Generate count start) → ⊥
not_generated f s text count start reply form =
    let same = same_command f.words (Generate count start) (Simulate reply.base reply.word reply.count reply.steps reply.start) form reply.form in
    absurd cc

-- where a read fails or too many bytes come the command is about the input
pub not_about_input : (f : CallContext) (command : Command) → IsForm f.words command → (IsAboutInput command → ⊥) → (IsReadFault f → ⊥) × (IsInputTooLong f → ⊥)
not_about_input f command form none = (λ r. none (about f.words r.command command r.form form r.about), λ r. none (about f.words r.command command r.form form r.about))

-- done, or out of memory
abbrev pub IsDoneStatus : Status → Type 0
IsDoneStatus s = (s ≡ status.Ok) ⊎ (s ≡ status.NoMemory)

-- so is the reply to a command where no read fails, not too many bytes come, and each answer and each simulation is so
pub done_reply : (f : CallContext) (s : Status) (text : List ℕ) (command : Command) → IsReply f s text → IsForm f.words command → (IsReadFault f → ⊥) × (IsInputTooLong f → ⊥)
    → (IsAnswered f s text → IsDoneStatus s) → (IsSimulationReply f s text → IsDoneStatus s) → IsDoneStatus s
done_reply f status.Ok text command reply form whole answer simulation = inl refl
done_reply f status.NoMemory text command reply form whole answer simulation = inr refl
done_reply f status.Usage text command reply form whole answer simulation = absurd (reply.0.none command form)
done_reply f status.ReadFault text command reply form whole answer simulation = absurd (whole.0 reply.0)
done_reply f status.InputTooLong text command reply form whole answer simulation = absurd (whole.1 reply.0)
done_reply f status.WriteFault text command reply form whole answer simulation = absurd reply
done_reply f status.LinkRefused text command (inl reply) form whole answer simulation = answer reply
done_reply f status.LinkRefused text command (inr reply) form whole answer simulation = simulation reply
done_reply f status.BadWord text command reply form whole answer simulation = simulation reply
done_reply f s text command reply form whole answer simulation = answer reply

-- a call ends as it is replied, where no write fails
pub done_delivered : (told told' : Option (List ℕ)) (faults faults' : ℕ) (s : Status) (text : List ℕ) (result : Status)
    → IsDelivered told told' faults faults' s text result → (FaultCountRose faults faults' → ⊥) → IsDoneStatus s → IsDoneStatus result
done_delivered told told' faults faults' s text result (inl whole) silent reply = subst IsDoneStatus (sym whole.0) reply
done_delivered told told' faults faults' s text result (inr part) silent reply = absurd (silent part.2)
