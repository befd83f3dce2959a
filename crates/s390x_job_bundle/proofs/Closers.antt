-- The lines that a completion adds: those that close a job, and a line that is lacking.
use Rattle.std.proofs.Common.{◌≡◌, ℕ, zero, suc, Bool, true, false, List, [], ◌∷◌, ◌++◌, refl, ap}
use Rattle.std.specs.Prelude.{codes, if◌then◌else◌}
use Rattle.s390x_job_fields.proofs.Avoids.{Avoids-test}
use Rattle.s390x_job_lines.proofs.Frees.{Free}
use Rattle.s390x_job.specs.Completions.{closing, text_of_lines}
use Rattle.s390x_job_bundle.specs.Cut.{HasNoEnd}
use Rattle.s390x_job_bundle.proofs.Heads.{free_of}
use Rattle.s390x_job_bundle.proofs.Lines.{AllFree}

abbrev pub loop_ends : ℕ → List (List ℕ)
loop_ends zero = []
loop_ends (suc n) = codes "endloop" ∷ loop_ends n

abbrev pub closers : ℕ → List (List ℕ)
closers n = loop_ends n ++ codes "end" ∷ []

pub closers_joined : (n : ℕ) → text_of_lines (closers n) ≡ closing n
closers_joined zero = refl
closers_joined (suc n) = ap (λ t. codes "endloop" ++ (10 ∷ t)) (closers_joined n)

pub closers_free : (n : ℕ) → AllFree (closers n)
closers_free zero = (free_of (codes "end") (Avoids-test (10 ∷ []) (codes "end") refl), tt)
closers_free (suc n) = (free_of (codes "endloop") (Avoids-test (10 ∷ []) (codes "endloop") refl), closers_free n)

pub loop_ends_lack : (n : ℕ) → HasNoEnd (loop_ends n)
loop_ends_lack zero = tt
loop_ends_lack (suc n) = (refl, loop_ends_lack n)

-- the lines begin with what closes a job
pub record Closed (ws : List (List ℕ)) : Type 0 where
  pub count : ℕ
  pub more : List (List ℕ)
  pub is : ws ≡ closers count ++ more

-- this line, where it is lacking
abbrev pub line_tail : List ℕ → Bool → List (List ℕ)
line_tail w b = if b then [] else w ∷ []

pub line_tail_joined : (w : List ℕ) (b : Bool) → text_of_lines (line_tail w b) ≡ (if b then [] else w ++ 10 ∷ [])
line_tail_joined w true = refl
line_tail_joined w false = refl

pub line_tail_free : (w : List ℕ) (b : Bool) → Free 10 w → AllFree (line_tail w b)
line_tail_free w true h = tt
line_tail_free w false h = (h, tt)
