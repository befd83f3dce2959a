-- The text of a bundle: for each function a line with its name and its job, and then a line `close`.
use Rattle.std.specs.Prelude.{◌≡◌, ℕ, ◌<◌, List, [], ◌∷◌, ◌++◌, codes}
use Rattle.std.specs.Fmt.{decimal}
use Rattle.s390x_base.specs.declared.ir.ExternalName.{ExternalName}
use Rattle.s390x_job.specs.Jobs.{text_of_job, IsJob}
use Rattle.s390x_job.specs.Same.{SameJob}
use Rattle.s390x_job_bundle.specs.declared.named_job.NamedJob.{NamedJob}

-- `function uN`, without a line feed
abbrev pub head_line : ExternalName → List ℕ
head_line name = codes "function u" ++ decimal name.0

-- `close`, the last line, without a line feed
abbrev pub close_line : List ℕ
close_line = codes "close"

-- the text of functions, each behind the line with its name, and the line `close`
abbrev pub text_of_functions : List NamedJob → List ℕ
text_of_functions [] = close_line ++ 10 ∷ []
text_of_functions (f ∷ fs) = head_line f.name ++ (10 ∷ (text_of_job f.job ++ text_of_functions fs))

-- each name's number lies in its range, and each job keeps the order and the limits of jobs
abbrev pub AreFunctions : List NamedJob → Type 0
AreFunctions [] = Unit {0}
AreFunctions (f ∷ fs) = (f.name.0 < 4294967296) × IsJob f.job × AreFunctions fs

-- the same functions: by their names and by the lines of their jobs
abbrev pub SameFunctions : List NamedJob → List NamedJob → Type 0
SameFunctions [] [] = Unit {0}
SameFunctions (f ∷ fs) (g ∷ gs) = (f.name ≡ g.name) × SameJob f.job g.job × SameFunctions fs gs
SameFunctions _ _ = ⊥

-- the bytes are the text of these functions, and of no others
pub record AreFunctionsOf (bytes : List ℕ) (functions : List NamedJob) : Type 0 where
  pub are : AreFunctions functions
  pub spelled : text_of_functions functions ≡ bytes
  pub one : (fs : List NamedJob) → AreFunctions fs → text_of_functions fs ≡ bytes → SameFunctions functions fs
