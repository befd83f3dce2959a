use Rattle.std.proofs.Common.{◌≡◌, ◌++◌, drop, string_bytes}
use Rattle.s390x_job.specs.Jobs.{lines_text, blocks_lines}
use Rattle.s390x_job.proofs.jobs.put_blocks.Given as goal

abbrev pub invariant-loop-b : goal.invariant-loop-b
invariant-loop-b l =
    string_bytes l.out ++ lines_text (blocks_lines (drop l.b-index l.bs)) ≡ string_bytes l.initial.out ++ lines_text (blocks_lines l.bs)
