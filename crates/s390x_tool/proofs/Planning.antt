-- A plan without a fault is done, unless memory doesn't suffice.
use Rattle.std.proofs.Common.{◌≡◌, ℕ, ◌⊎◌, inl, inr, List, refl, arith, subst, Some}
use Rattle.std.specs.Prelude.{Option, Result, IsOk, Err}
use Rattle.std.proofs.lemmas.Bool.{false≢true}
use Rattle.s390x_tool.specs.Words.{IsForm}
use Rattle.s390x_tool.specs.declared.words.Command.TheVariants.{Allocate}
use Rattle.s390x_job.specs.Completions.{text_of_lines}
use Rattle.s390x_job_plan.specs.Example.{no_blocks}
use Rattle.s390x_job_plan.proofs.Example.{no_blocks_are_text}
use Rattle.s390x_tool.specs.Allocated.{IsAllocateAnswer, IsPlanAccepted}
use Rattle.s390x_tool.specs.Causes.{FaultCountRose}
use Rattle.s390x_tool.specs.Replies.{CallContext, IsDelivered, IsReply}
use Rattle.s390x_tool.specs.declared.status.Status.{Status}
use Rattle.s390x_tool.specs.declared.status.Status.TheVariants as status
use Rattle.s390x_tool.proofs.Asking.{IsDoneStatus, done_delivered, done_reply, not_simulation}
use Rattle.s390x_tool.proofs.Completing.{answered_whole, no_more_than}

-- what is no error isn't this one
no_error : {T E : Type 0} (r : Result T E) (e : E) → IsOk r → r ≡ Err e → ⊥
no_error r e is same = false≢true (subst IsOk same is)

-- the answer to such an input
allocated_answer : (input : List ℕ) (s : Status) (text : List ℕ) → IsAllocateAnswer input s text → IsPlanAccepted input → IsDoneStatus s
allocated_answer input status.Ok text answer accepted = inl refl
allocated_answer input status.NoMemory text answer accepted = inr refl
allocated_answer input status.Syntax text answer accepted = absurd (answer.none accepted.planned)
allocated_answer input status.PlanRefused text answer accepted =
    absurd (no_error _ answer.first (accepted.faultless answer.planned answer.is.is answer.is.spelled) answer.cause)
allocated_answer input s text answer accepted = absurd answer

-- how a call on such an input ends, where nothing failed
pub allocated_result : (f : CallContext) (told told' : Option (List ℕ)) (faults faults' : ℕ) (s : Status) (text : List ℕ) (result : Status)
    → IsReply f s text → IsDelivered told told' faults faults' s text result
    → (input : List ℕ) → IsForm f.words Allocate → f.left ≡ Some input → IsPlanAccepted input
    → (FaultCountRose f.faults f.faults' → ⊥) → (FaultCountRose faults faults' → ⊥) → (result ≡ status.Ok) ⊎ (result ≡ status.NoMemory)
allocated_result f told told' faults faults' s text result reply delivered input form left accepted quiet silent =
    done_delivered told told' faults faults' s text result delivered silent
    (done_reply f s text Allocate reply form (no_more_than f input left accepted.short quiet)
    (λ r. allocated_answer input s text (answered_whole f s text Allocate input r form left) accepted)
    (λ r. absurd (not_simulation f s text Allocate r form tt)))

-- ---- no blocks

pub no_blocks_accepted : IsPlanAccepted (text_of_lines no_blocks)
no_blocks_accepted =
    record {
      short = omega arith;
      planned = no_blocks_are_text.planned;
      faultless = λ p is e. rw (no_blocks_are_text.job_blocks p is e, no_blocks_are_text.plan_blocks p is e) refl;
    }
