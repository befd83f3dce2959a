-- An accepted input is done, unless memory doesn't suffice.
use Rattle.std.proofs.Common.{◌≡◌, ℕ, ◌≤◌, ◌⊎◌, inl, inr, List, length, refl, sym, ap, ◌∙◌, arith, append-nil, length-append, subst, Some, None}
use Rattle.std.specs.Prelude.{Option}
use Rattle.std.specs.Io.KnownBytes.{Consumes, IsAtEnd}
use Rattle.s390x_smp.specs.Image.{start_cause}
use Rattle.s390x_job.specs.Jobs.{IsJob}
use Rattle.s390x_job.specs.Same.{SameJob}
use Rattle.s390x_job.specs.declared.job.Job.{Job}
use Rattle.s390x_tool.specs.Causes.{FaultCountRose}
use Rattle.s390x_tool.specs.Ends.{most_bytes}
use Rattle.s390x_tool.specs.Words.{IsForm}
use Rattle.s390x_tool.specs.Answers.{IsAccepted, IsAnswer, IsJobReply, IsUnrefused, Links}
use Rattle.s390x_tool.specs.Simulated.{IsSimulateReply}
use Rattle.s390x_tool.proofs.Told.{same_command}
use Rattle.s390x_tool.proofs.SameJob.{same_cause, same_links}
use Rattle.s390x_tool.proofs.SameOperands.{same_operands_cause}
use Rattle.s390x_tool.proofs.Asking.{IsDoneStatus, answered, done_delivered, done_reply, not_about_input, not_generated, not_simulation}
use Rattle.s390x_tool.proofs.Replying.{of_job}
use Rattle.s390x_tool.specs.Replies.{CallContext, IsAnswered, IsInputAnswer, IsInputTooLong, IsReadFault, IsReply, IsDelivered}
use Rattle.s390x_tool.specs.declared.words.Command.{Command}
use Rattle.s390x_tool.specs.declared.words.Command.TheVariants.{OnJob, Generate, Simulate}
use Rattle.s390x_tool.specs.declared.words.JobCommand.{JobCommand}
use Rattle.s390x_tool.specs.declared.words.JobCommand.TheVariants.{Image, Emit, Run, Operands, Show}
use Rattle.s390x_tool.specs.declared.status.Status.{Status}
use Rattle.s390x_tool.specs.declared.status.Status.TheVariants as status

-- what was read to the end is all
pub read_whole : (left left' : Option (List ℕ)) (input taken : List ℕ) → left ≡ Some input → Consumes left left' taken → IsAtEnd left' → input ≡ taken
read_whole None left' input taken is consumed end = cc
read_whole (Some xs) None input taken is consumed end = absurd consumed
read_whole (Some xs) (Some ys) input taken is consumed end =
    let same : xs ≡ input = cc in
    sym same ∙ consumed ∙ rw end (append-nil taken)

-- no more is read than there is
pub read_less : (left left' : Option (List ℕ)) (input taken : List ℕ) → left ≡ Some input → Consumes left left' taken → length taken ≤ length input
read_less None left' input taken is consumed = absurd cc
read_less (Some xs) None input taken is consumed = absurd consumed
read_less (Some xs) (Some ys) input taken is consumed =
    let same : xs ≡ input = cc in
    omega (arith, ap length same, ap length consumed, length-append taken ys)

-- a job with the lines of one without a cause of refusal isn't refused
refused_not : (command : JobCommand) (j k : Job) (text : List ℕ) → IsJobReply command j status.Refused text → IsJob j → IsJob k → SameJob j k → IsUnrefused command k → ⊥
refused_not Operands j k text reply a b same valid =
    let cause = reply.cause in
    let none = same_operands_cause j k a b same ∙ valid in
    cc
refused_not command j k text reply a b same valid =
    let cause = reply.cause in
    let none = same_cause j k a b same ∙ valid in
    cc

linked_not : (command : JobCommand) (j : Job) (text : List ℕ) → Links command j → IsJobReply command j status.LinkRefused text → ⊥
linked_not (Image base) j text links reply =
    let cause = reply.cause in
    let none = links reply.code reply.is in
    cc
linked_not (Run base steps) j text links reply =
    let cause = reply.cause in
    let none = links reply.code reply.is in
    cc
linked_not command j text links reply = absurd reply

-- an input that isn't too long was read whole, where no read fails
pub no_more_than : (f : CallContext) (input : List ℕ) → f.left ≡ Some input → length input ≤ most_bytes → (FaultCountRose f.faults f.faults' → ⊥) → (IsReadFault f → ⊥) × (IsInputTooLong f → ⊥)
no_more_than f input left short quiet =
    (λ r. quiet r.rose, λ r. let less = read_less f.left f.left' input r.long.taken left r.long.consumed in omega (arith, less, r.long.long, short))

-- the answer is that to all of the input
pub answered_whole : (f : CallContext) (s : Status) (text : List ℕ) (command : Command) (input : List ℕ) (reply : IsAnswered f s text) → IsForm f.words command → f.left ≡ Some input → IsInputAnswer command input s text
answered_whole f s text command input reply form left =
    subst (λ i. IsInputAnswer command i s text) (sym (read_whole f.left f.left' input reply.input left reply.read.taken reply.read.end)) (answered f s text command reply form)

-- the answer to an accepted input
accepted_answer : (command : JobCommand) (input : List ℕ) (s : Status) (text : List ℕ) → IsAnswer command input s text → IsAccepted command input → IsDoneStatus s
accepted_answer command input status.Ok text answer accepted = inl refl
accepted_answer command input status.NoMemory text answer accepted = inr refl
accepted_answer command input status.Syntax text answer accepted = absurd (answer.no_job accepted.job accepted.is accepted.spelled)
accepted_answer command input status.Refused text answer accepted =
    let same = answer.one accepted.job accepted.is accepted.spelled in
    absurd (refused_not command answer.job accepted.job text answer.reply answer.is accepted.is same accepted.valid)
accepted_answer command input status.LinkRefused text answer accepted =
    let same = answer.one accepted.job accepted.is accepted.spelled in
    absurd (linked_not command answer.job text (same_links command answer.job accepted.job answer.is accepted.is same accepted.links) answer.reply)
accepted_answer command input s text answer accepted = absurd (of_job command answer.job s text answer.reply)

-- how a call on an accepted input ends, where nothing failed
pub completed : (f : CallContext) (told told' : Option (List ℕ)) (faults faults' : ℕ) (s : Status) (text : List ℕ) (result : Status)
    → IsReply f s text → IsDelivered told told' faults faults' s text result
    → (command : JobCommand) (input : List ℕ) → IsForm f.words (OnJob command) → f.left ≡ Some input → IsAccepted command input
    → (FaultCountRose f.faults f.faults' → ⊥) → (FaultCountRose faults faults' → ⊥) → (result ≡ status.Ok) ⊎ (result ≡ status.NoMemory)
completed f told told' faults faults' s text result reply delivered command input form left accepted quiet silent =
    done_delivered told told' faults faults' s text result delivered silent
    (done_reply f s text (OnJob command) reply form (no_more_than f input left accepted.short quiet)
    (λ r. accepted_answer command input s text (answered_whole f s text (OnJob command) input r form left) accepted)
    (λ r. absurd (not_simulation f s text (OnJob command) r form tt)))

-- how a call ends that asks for a generated function, where no write failed
pub generated_result : (f : CallContext) (told told' : Option (List ℕ)) (faults faults' : ℕ) (s : Status) (text : List ℕ) (result : Status)
    → IsReply f s text → IsDelivered told told' faults faults' s text result
    → (count start : ℕ) → IsForm f.words (Generate count start) → (FaultCountRose faults faults' → ⊥) → (result ≡ status.Ok) ⊎ (result ≡ status.NoMemory)
generated_result f told told' faults faults' s text result reply delivered count start form silent =
    done_delivered told told' faults faults' s text result delivered silent
    (done_reply f s text (Generate count start) reply form (not_about_input f (Generate count start) form (λ none. none))
    (λ r. absurd (answered f s text (Generate count start) r form))
    (λ r. absurd (not_generated f s text count start r form)))

-- the reply to words that ask for a simulation which nothing refuses
usable : (words : List (List ℕ)) (base word count steps start base' word' count' steps' start' : ℕ) → IsForm words (Simulate base word count steps start) → IsForm words (Simulate base' word' count' steps' start')
    → start_cause base word ≡ None → start_cause base' word' ≡ None
usable words base word count steps start base' word' count' steps' start' a b none =
    let same = same_command words (Simulate base word count steps start) (Simulate base' word' count' steps' start') a b in
    let base_is : base ≡ base' = cc in
    let word_is : word ≡ word' = cc in
    subst (λ w. start_cause base' w ≡ None) word_is (subst (λ b. start_cause b word ≡ None) base_is none)

unrefused : (base word count steps start : ℕ) (s : Status) (text : List ℕ) → IsSimulateReply base word count steps start s text → start_cause base word ≡ None → IsDoneStatus s
unrefused base word count steps start status.Ok text reply none = inl refl
unrefused base word count steps start status.NoMemory text reply none = inr refl
unrefused base word count steps start status.LinkRefused text reply none = let clash = sym none ∙ reply.cause in absurd cc
unrefused base word count steps start status.BadWord text reply none = let clash = sym none ∙ reply.cause in absurd cc
unrefused base word count steps start s text reply none = absurd reply

-- how a call ends that asks for one, where no write failed
pub simulated_result : (f : CallContext) (told told' : Option (List ℕ)) (faults faults' : ℕ) (s : Status) (text : List ℕ) (result : Status)
    → IsReply f s text → IsDelivered told told' faults faults' s text result
    → (base word count steps start : ℕ) → IsForm f.words (Simulate base word count steps start) → start_cause base word ≡ None → (FaultCountRose faults faults' → ⊥) → (result ≡ status.Ok) ⊎ (result ≡ status.NoMemory)
simulated_result f told told' faults faults' s text result reply delivered base word count steps start form none silent =
    done_delivered told told' faults faults' s text result delivered silent
    (done_reply f s text (Simulate base word count steps start) reply form (not_about_input f (Simulate base word count steps start) form (λ about. about))
    (λ r. absurd (answered f s text (Simulate base word count steps start) r form))
    (λ r. unrefused r.base r.word r.count r.steps r.start s text r.told (usable f.words base word count steps start r.base r.word r.count r.steps r.start form r.form none)))
