use Rattle.std.proofs.Common.{◌≡◌, ◌++◌, take, drop}
use Rattle.s390x_job_fields.specs.Marks.{before_mark}
use Rattle.s390x_job_fields.proofs.separators.until_separator.Given as goal

abbrev pub invariant-loop-i : goal.invariant-loop-i
invariant-loop-i l = take l.i l.s ++ before_mark (drop l.i l.s) ≡ before_mark l.s
