use Rattle.std.proofs.Common.{◌≡◌, drop}
use Rattle.s390x_job_fields.specs.Numbers.{decimal_from, decimal_of}
use Rattle.s390x_job_fields.proofs.number.natural.Given as goal

abbrev pub invariant-loop-x : goal.invariant-loop-x
invariant-loop-x l = decimal_from l.a (drop l.x-index l.s) ≡ decimal_of l.s
