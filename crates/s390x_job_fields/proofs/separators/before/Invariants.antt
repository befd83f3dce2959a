use Rattle.std.proofs.Common.{◌≡◌, ◌++◌, take, drop}
use Rattle.s390x_job_fields.specs.Marks.{upto}
use Rattle.s390x_job_fields.proofs.separators.before.Given as goal

abbrev pub invariant-loop-i : goal.invariant-loop-i
invariant-loop-i l = take l.i l.s ++ upto l.c (drop l.i l.s) ≡ upto l.c l.s
