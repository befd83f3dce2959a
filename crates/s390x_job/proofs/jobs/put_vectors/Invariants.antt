use Rattle.std.proofs.Common.{◌≡◌, ◌++◌, drop, string_bytes}
use Rattle.s390x_base.specs.Registers.{vector}
use Rattle.s390x_job.specs.Jobs.{lines_text, start_lines}
use Rattle.s390x_job.proofs.jobs.put_vectors.Given as goal

abbrev pub invariant-loop-n : goal.invariant-loop-n
invariant-loop-n l =
    string_bytes l.out ++ lines_text (start_lines vector l.n (drop l.n l.values)) ≡ string_bytes l.initial.out ++ lines_text (start_lines vector 0 l.values)
