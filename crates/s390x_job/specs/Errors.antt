-- What the readers answer.
use Rattle.std.specs.Prelude.{◌≡◌, ℕ, List}
use Rattle.s390x_job.specs.Jobs.{text_of_job, IsJob}
use Rattle.s390x_job.specs.Completions.{pieces, completion, IsText, IsFirstWrong, IsStuck}
use Rattle.s390x_job.specs.declared.job.Job.{Job}
use Rattle.s390x_job.specs.declared.job.LineError.{LineError}
use Rattle.s390x_job.specs.declared.job.LineError.TheVariants.{Syntax, NoMemory}
use Rattle.s390x_job.specs.declared.lines.ParseOutcome.{ParseOutcome}
use Rattle.s390x_job.specs.declared.lines.ParseOutcome.TheVariants.{Whole, Stuck}

-- no job has this text, and no completion of more than k lines is one
abbrev pub IsStuckAt : List ℕ → ℕ → Type 0
IsStuckAt bytes k = IsStuck IsText completion bytes k

-- what was found is so: the job has this text, or no job has it and no completion of more lines is one
abbrev pub IsReadJob : List ℕ → ParseOutcome → Type 0
IsReadJob bytes (Whole j) = IsJob j × (text_of_job j ≡ bytes)
IsReadJob bytes (Stuck k) = IsStuckAt bytes k

-- `Syntax` exactly where no job has this text, with the line by completions
abbrev pub IsError : List ℕ → LineError → Type 0
IsError bytes (Syntax line) =
    ((j : Job) → IsJob j → text_of_job j ≡ bytes → ⊥) × IsFirstWrong (pieces bytes) line
IsError bytes NoMemory = Unit {0}
