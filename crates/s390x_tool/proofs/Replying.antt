-- What follows from a reply and how it was written.
use Rattle.std.proofs.Common.{◌≡◌, ℕ, ◌⊎◌, inl, inr, List, refl, sym, ◌∙◌}
use Rattle.std.specs.Prelude.{Option}
use Rattle.s390x_tool.specs.Words.{IsNoForm}
use Rattle.s390x_tool.specs.declared.words.Command.TheVariants.{Generate, Simulate}
use Rattle.s390x_tool.specs.declared.words.JobCommand.{JobCommand}
use Rattle.s390x_tool.specs.declared.words.JobCommand.TheVariants.{Image, Emit, Run, Operands, Show}
use Rattle.s390x_job.specs.declared.job.Job.{Job}
use Rattle.s390x_tool.specs.Answers.{IsJobReply}
use Rattle.s390x_tool.specs.Replies.{CallContext, IsReply, IsDelivered, IsDone}
use Rattle.s390x_tool.specs.declared.status.Status.{Status}
use Rattle.s390x_tool.specs.declared.status.Status.TheVariants as status

-- ---- the program's reply

-- the statuses of replies to a job
abbrev IsOfJob : Status → Type 0
IsOfJob status.Ok = Unit {0}
IsOfJob status.Refused = Unit {0}
IsOfJob status.LinkRefused = Unit {0}
IsOfJob status.NoMemory = Unit {0}
IsOfJob s = ⊥

pub of_job : (command : JobCommand) (j : Job) (s : Status) (text : List ℕ) → IsJobReply command j s text → IsOfJob s
of_job command j status.Ok text reply = tt
of_job command j status.Refused text reply = tt
of_job command j status.LinkRefused text reply = tt
of_job command j status.NoMemory text reply = tt
of_job (Image base) j s text reply = absurd reply
of_job Emit j s text reply = absurd reply
of_job (Run base steps) j s text reply = absurd reply
of_job Operands j s text reply = absurd reply
of_job Show j s text reply = absurd reply

-- ---- what follows from it

-- where the words are no command the reply is that
usage_reply : (f : CallContext) (s : Status) (text : List ℕ) → IsNoForm f.words → IsReply f s text → s ≡ status.Usage
usage_reply f status.Usage text none reply = refl
usage_reply f status.ReadFault text none reply = absurd (none reply.0.command reply.0.form)
usage_reply f status.InputTooLong text none reply = absurd (none reply.0.command reply.0.form)
usage_reply f status.NoMemory text none reply = absurd (none reply.0.command reply.0.form)
usage_reply f status.WriteFault text none reply = absurd reply
usage_reply f status.Ok text none (inl reply) = absurd (none reply.command reply.form)
usage_reply f status.Ok text none (inr (inl reply)) = absurd (none (Generate reply.count reply.start) reply.form)
usage_reply f status.Ok text none (inr (inr reply)) = absurd (none (Simulate reply.base reply.word reply.count reply.steps reply.start) reply.form)
usage_reply f status.LinkRefused text none (inl reply) = absurd (none reply.command reply.form)
usage_reply f status.LinkRefused text none (inr reply) = absurd (none (Simulate reply.base reply.word reply.count reply.steps reply.start) reply.form)
usage_reply f status.BadWord text none reply = absurd (none (Simulate reply.base reply.word reply.count reply.steps reply.start) reply.form)
usage_reply f s text none reply = absurd (none reply.command reply.form)

-- a delivered status is the reply's or tells of a failed write
delivered_status : (told told' : Option (List ℕ)) (faults faults' : ℕ) (s : Status) (text : List ℕ) (result : Status)
    → IsDelivered told told' faults faults' s text result → (result ≡ s) ⊎ (result ≡ status.WriteFault)
delivered_status told told' faults faults' s text result (inl whole) = inl whole.0
delivered_status told told' faults faults' s text result (inr part) = inr part.0

pub usage_result : (f : CallContext) (told told' : Option (List ℕ)) (faults faults' : ℕ) (s : Status) (text : List ℕ) (result : Status)
    → IsReply f s text → IsDelivered told told' faults faults' s text result → IsNoForm f.words
    → (result ≡ status.Usage) ⊎ (result ≡ status.WriteFault)
usage_result f told told' faults faults' s text result reply delivered none =
    rw (usage_reply f s text none reply) at (delivered_status told told' faults faults' s text result delivered)

-- at `Ok` all was done
pub done_result : (f : CallContext) (told told' : Option (List ℕ)) (faults faults' : ℕ) (s : Status) (text : List ℕ) (result : Status)
    → IsReply f s text → IsDelivered told told' faults faults' s text result → result ≡ status.Ok → IsDone f told told'
done_result f told told' faults faults' s text result reply (inl whole) ok =
    record { text = text; reply = rw (sym whole.0 ∙ ok) at reply; appended = whole.1 }
done_result f told told' faults faults' s text result reply (inr part) ok = absurd cc
