-- How a call ends on an input, from how it ends on what the input is the text of.
use Rattle.std.proofs.Common.{◌≡◌, ℕ, ◌≤◌, List, length, ◌⊎◌, inl, inr, refl, ap, ◌∙◌, arith}
use Rattle.s390x_job.specs.Completions.{IsFirstWrong, IsText}
use Rattle.s390x_job.specs.Jobs.{IsJob, text_of_job}
use Rattle.s390x_job.specs.Same.{SameJob}
use Rattle.s390x_job.specs.declared.job.Job.{Job}
use Rattle.s390x_calls.specs.Ends.{EndsTo, EndsWithNumber, IsNoText, IsTextSuchThat}
use Rattle.s390x_calls.specs.Input.{EndsToOfJob, IsJobOf, IsSyntax, at_line}
use Rattle.s390x_calls.specs.declared.reason.Reason.{Reason}
use Rattle.s390x_calls.specs.Status.{number_of_status}
use Rattle.s390x_calls.specs.declared.status.Status.{Status}
use Rattle.s390x_calls.specs.declared.status.Status.TheVariants as status

-- no job has the text
pub no_job : (input : List ℕ) → ((j : Job) → IsJob j → text_of_job j ≡ input → ⊥) → IsText input → ⊥
no_job input none is = none is.0 is.1 is.2

-- What the input is the text of has no wrong text and isn't too long
pub on_text : {A : Type 0} (input : List ℕ) (IsItsText : A → Type 0) (IsWrong Unwritten Kept : Type 0) (Ends : A → Status → Type 0) (a : A)
    (s : Status) → length input ≤ 16777216 → IsItsText a → (Ends a status.Syntax → ⊥) → (Ends a status.TooLong → ⊥) → (Ends a status.NoMemory → Unwritten × Kept)
    → Ends a s → EndsTo input IsItsText IsWrong Unwritten Kept Ends s
on_text input of wrong unwritten kept Ends a status.Syntax small text no_syntax no_length short ends = absurd (no_syntax ends)
on_text input of wrong unwritten kept Ends a status.TooLong small text no_syntax no_length short ends = absurd (no_length ends)
on_text input of wrong unwritten kept Ends a status.NoMemory small text no_syntax no_length short ends = ((short ends).0, (short ends).1, small)
on_text input of wrong unwritten kept Ends a s small text no_syntax no_length short ends = record { short = small; what = a; text = text; ends = ends }

-- the same of the text of a job
pub on_job : (input : List ℕ) (reason reason' : Reason) (Unwritten : Type 0) (Ends : Job → Status → Type 0) (j : Job) (s : Status)
    → length input ≤ 16777216 → IsJob j → text_of_job j ≡ input → ((other : Job) → IsJob other → text_of_job other ≡ input → SameJob j other)
    → (Ends j status.Syntax → ⊥) → (Ends j status.TooLong → ⊥) → (Ends j status.NoMemory → Unwritten × (reason' ≡ reason))
    → Ends j s → EndsToOfJob input reason reason' Unwritten Ends s
on_job input reason reason' unwritten Ends j s small is spelled one no_syntax no_length short ends =
    on_text input (IsJobOf input) (IsSyntax input reason') unwritten (reason' ≡ reason) Ends j s small (record { is = is; spelled = spelled; one = one })
    no_syntax no_length short ends

-- On such a text nothing but done and want of memory is left, where what holds of it leaves nothing else
ended : {A R : Type 0} (input : List ℕ) (IsText : List ℕ → Type 0) (IsFirstWrong : List (List ℕ) → ℕ → Type 0) (at_line : ℕ → R) (reason' : R)
    (IsItsText : A → Type 0) (Unwritten Kept : Type 0) (Ends : A → Status → Type 0) (Holds : A → Type 0)
    → ((a : A) (s : Status) → Holds a → Ends a s → (s ≡ status.Done) ⊎ (s ≡ status.NoMemory)) → IsTextSuchThat IsText IsItsText Holds input → (s : Status)
    → EndsTo input IsItsText (IsNoText IsText IsFirstWrong at_line input reason') Unwritten Kept Ends s → (s ≡ status.Done) ⊎ (s ≡ status.NoMemory)
ended input is_text first at_line reason' of unwritten kept Ends holds law it status.Done so = inl refl
ended input is_text first at_line reason' of unwritten kept Ends holds law it status.Syntax so = absurd (so.0.none it.is)
ended input is_text first at_line reason' of unwritten kept Ends holds law it status.TooLong so = absurd (omega (arith, so.0, it.short))
ended input is_text first at_line reason' of unwritten kept Ends holds law it status.NoMemory so = inr refl
ended input is_text first at_line reason' of unwritten kept Ends holds law it s so = law so.what s (it.holds so.what so.text) so.ends

-- the numbers of done and of want of memory
numbered : (s : Status) (number : ℕ) → number ≡ number_of_status s → (s ≡ status.Done) ⊎ (s ≡ status.NoMemory) → (number ≡ 0) ⊎ (number ≡ 9)
numbered s number is (inl done) = inl (is ∙ ap number_of_status done)
numbered s number is (inr short) = inr (is ∙ ap number_of_status short)

pub completed : {A R : Type 0} (input : List ℕ) (IsText : List ℕ → Type 0) (IsFirstWrong : List (List ℕ) → ℕ → Type 0) (at_line : ℕ → R) (reason' : R)
    (IsItsText : A → Type 0) (Unwritten Kept : Type 0) (Ends : A → Status → Type 0) (Holds : A → Type 0) (number : ℕ)
    → ((a : A) (s : Status) → Holds a → Ends a s → (s ≡ status.Done) ⊎ (s ≡ status.NoMemory))
    → EndsWithNumber (EndsTo input IsItsText (IsNoText IsText IsFirstWrong at_line input reason') Unwritten Kept Ends) number
    → IsTextSuchThat IsText IsItsText Holds input → (number ≡ 0) ⊎ (number ≡ 9)
completed input is_text first at_line reason' of unwritten kept Ends holds number law so it =
    numbered so.ended number so.numbered (ended input is_text first at_line reason' of unwritten kept Ends holds law it so.ended so.so)

-- the same of the text of a job
pub job_completed : (input : List ℕ) (reason reason' : Reason) (Unwritten : Type 0) (Ends : Job → Status → Type 0) (Holds : Job → Type 0) (number : ℕ)
    → ((j : Job) (s : Status) → Holds j → Ends j s → (s ≡ status.Done) ⊎ (s ≡ status.NoMemory))
    → EndsWithNumber (EndsToOfJob input reason reason' Unwritten Ends) number
    → IsTextSuchThat IsText (IsJobOf input) Holds input → (number ≡ 0) ⊎ (number ≡ 9)
job_completed input reason reason' unwritten Ends holds number law so it =
    completed input IsText IsFirstWrong at_line reason' (IsJobOf input) unwritten (reason' ≡ reason) Ends holds number law so it
