use Rattle.std.proofs.Common.{◌≡◌, drop}
use Rattle.s390x_job_fields.specs.Marks.{from_mark}
use Rattle.s390x_job_fields.proofs.separators.from_separator.Given as goal

abbrev pub invariant-loop-i : goal.invariant-loop-i
invariant-loop-i l = from_mark (drop l.i l.s) ≡ from_mark l.s
