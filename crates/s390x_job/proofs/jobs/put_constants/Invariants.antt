use Rattle.std.proofs.Common.{◌≡◌, ◌++◌, drop, map, string_bytes}
use Rattle.s390x_job.specs.Items.{constant_line}
use Rattle.s390x_job.specs.Jobs.{lines_text}
use Rattle.s390x_job.proofs.jobs.put_constants.Given as goal

abbrev pub invariant-loop-c : goal.invariant-loop-c
invariant-loop-c l =
    string_bytes l.out ++ lines_text (map constant_line (drop l.c-index l.cs)) ≡ string_bytes l.initial.out ++ lines_text (map constant_line l.cs)
