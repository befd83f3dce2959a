-- How long a completion is.
use Rattle.std.proofs.Common.{ℕ, ◌+◌, ◌*◌, ◌<◌, ◌≤◌, Bool, true, false, List, [], ◌∷◌, ◌++◌, length, arith, length-append}
use Rattle.std.specs.Prelude.{nat_lt, ◌-◌, if◌then◌else◌}
use Rattle.s390x_job.specs.Completions.{closes, closing, text_of_lines, opens}
use Rattle.s390x_job.proofs.Sizes.{closing_size, opens_few}
use Rattle.s390x_job_bundle.specs.Completions.{bundle_completion, ends, has_line, heads, job_ending, line_ending}
use Rattle.s390x_job_bundle.specs.Text.{close_line}

job_ending_size : (ws : List (List ℕ)) → length (job_ending ws) ≤ 8 * opens ws + 4
job_ending_size ws = one (nat_lt (ends ws) (heads ws))
  where
    one : (t : Bool) → length (if t then closing (opens ws - closes ws) else []) ≤ 8 * opens ws + 4
    one true = omega (arith, closing_size (opens ws - closes ws))
    one false = omega arith

pub line_ending_size : (l : List ℕ) (ws : List (List ℕ)) → length (line_ending l ws) ≤ length l + 1
line_ending_size l ws = one (has_line l ws)
  where
    one : (t : Bool) → length (if t then [] else l ++ 10 ∷ []) ≤ length l + 1
    one true = omega arith
    one false = omega (arith, length-append l (10 ∷ []))

pub completion_size : (ws : List (List ℕ)) → length (text_of_lines ws) < 268435456 → length (bundle_completion ws) < 4294967295
completion_size ws h =
    omega (arith, h, opens_few ws, job_ending_size ws, line_ending_size close_line ws, length-append (text_of_lines ws) (job_ending ws ++ line_ending close_line ws), length-append (job_ending ws) (line_ending close_line ws))
