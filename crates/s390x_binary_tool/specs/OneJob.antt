-- Inputs that are the text of one job.
use Rattle.std.specs.Prelude.{◌≡◌, ℕ, List}
use Rattle.s390x_job.specs.Jobs.{IsJob, text_of_job}
use Rattle.s390x_job.specs.Same.{SameJob}
use Rattle.s390x_job.specs.declared.job.Job.{Job}

-- the input is the text of a job, the only one, and this is the reply to it
pub record IsOneJob (Reply : Job → Type 0) (input : List ℕ) : Type 0 where
  pub job : Job
  pub is : IsJob job
  pub spelled : text_of_job job ≡ input
  pub one : (j : Job) → IsJob j → text_of_job j ≡ input → SameJob job j
  pub reply : Reply job
