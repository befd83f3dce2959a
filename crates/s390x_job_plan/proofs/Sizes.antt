-- How long a completion is.
use Rattle.std.proofs.Common.{ℕ, ◌+◌, ◌*◌, ◌<◌, ◌≤◌, Bool, true, false, List, [], ◌++◌, length, arith, length-append}
use Rattle.std.specs.Prelude.{codes, ◌-◌, if◌then◌else◌}
use Rattle.s390x_job.specs.Completions.{closes, closing, text_of_lines, opens}
use Rattle.s390x_job.proofs.Sizes.{closing_size, opens_few}
use Rattle.s390x_job_bundle.specs.Completions.{has_line, line_ending}
use Rattle.s390x_job_bundle.proofs.Sizes.{line_ending_size}
use Rattle.s390x_job_plan.specs.Completions.{job_ending, plan_completion}

job_ending_size : (ws : List (List ℕ)) → length (job_ending ws) ≤ 8 * opens ws + 4
job_ending_size ws = one (has_line (codes "end") ws)
  where
    one : (t : Bool) → length (if t then [] else closing (opens ws - closes ws)) ≤ 8 * opens ws + 4
    one true = omega arith
    one false = omega (arith, closing_size (opens ws - closes ws))

pub completion_size : (ws : List (List ℕ)) → length (text_of_lines ws) < 268435456 → length (plan_completion ws) < 4294967295
completion_size ws h =
    let last = line_ending (codes "plan") ws ++ line_ending (codes "close") ws in
    omega (arith, h, opens_few ws, job_ending_size ws, line_ending_size (codes "plan") ws, line_ending_size (codes "close") ws, length-append (text_of_lines ws) (job_ending ws ++ last), length-append (job_ending ws) last, length-append (line_ending (codes "plan") ws) (line_ending (codes "close") ws))
