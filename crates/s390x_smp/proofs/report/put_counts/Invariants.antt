use Rattle.std.proofs.Common.{◌≡◌, ◌++◌, drop, string_bytes}
use Rattle.s390x_smp.specs.Report.{count_lines}
use Rattle.s390x_smp.proofs.report.put_counts.Given as goal

abbrev pub invariant-loop-number : goal.invariant-loop-number
invariant-loop-number l = string_bytes l.out ++ count_lines l.number (drop l.number l.stores) ≡ string_bytes l.initial.out ++ count_lines 0 l.stores
