-- When two jobs are the same: by their lines.
use Rattle.std.specs.Prelude.{◌≡◌}
use Rattle.s390x_job.specs.Jobs.{job_lines}
use Rattle.s390x_job.specs.declared.job.Job.{Job}

-- two jobs have equal lines: the same names with the same fields, in the same order. An instruction's line has its variant's
-- name and all its fields, and a loop's members stand between its line and its `endloop`
abbrev pub SameJob : Job → Job → Type 0
SameJob j k = job_lines j ≡ job_lines k
