use Rattle.std.proofs.Common.{◌≡◌, drop}
use Rattle.s390x_job_fields.specs.Marks.{past}
use Rattle.s390x_job_fields.proofs.separators.after.Given as goal

abbrev pub invariant-loop-i : goal.invariant-loop-i
invariant-loop-i l = past l.c (drop l.i l.s) ≡ past l.c l.s
