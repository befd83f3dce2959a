use Rattle.std.proofs.Common.{◌≡◌, ◌++◌, drop, string_bytes}
use Rattle.s390x_job.specs.Jobs.{lines_text, insts_lines}
use Rattle.s390x_job.proofs.jobs.+trees.Given as goal

abbrev pub invariant-put_insts-loop-i : goal.invariant-put_insts-loop-i
invariant-put_insts-loop-i l =
    string_bytes l.out ++ lines_text (insts_lines (drop l.i-index l.is)) ≡ string_bytes l.initial.out ++ lines_text (insts_lines l.is)
