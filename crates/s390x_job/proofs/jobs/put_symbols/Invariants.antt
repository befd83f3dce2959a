use Rattle.std.proofs.Common.{◌≡◌, ◌++◌, drop, map, string_bytes}
use Rattle.s390x_job.specs.Items.{symbol_line}
use Rattle.s390x_job.specs.Jobs.{lines_text}
use Rattle.s390x_job.proofs.jobs.put_symbols.Given as goal

abbrev pub invariant-loop-s : goal.invariant-loop-s
invariant-loop-s l =
    string_bytes l.out ++ lines_text (map symbol_line (drop l.s-index l.ss)) ≡ string_bytes l.initial.out ++ lines_text (map symbol_line l.ss)
