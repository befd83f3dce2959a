use Rattle.std.proofs.Common.{◌≡◌, ◌++◌, drop, map, string_bytes}
use Rattle.s390x_job.specs.Items.{memory_line}
use Rattle.s390x_job.specs.Jobs.{lines_text}
use Rattle.s390x_job.proofs.jobs.put_regions.Given as goal

abbrev pub invariant-loop-m : goal.invariant-loop-m
invariant-loop-m l =
    string_bytes l.out ++ lines_text (map memory_line (drop l.m-index l.ms)) ≡ string_bytes l.initial.out ++ lines_text (map memory_line l.ms)
