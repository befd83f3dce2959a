use Rattle.std.proofs.Common.{◌≡◌, drop}
use Rattle.s390x_job_fields.specs.Bytes.{hex_from}
use Rattle.s390x_job_fields.proofs.bytes.hex_number.Given as goal

abbrev pub invariant-loop-x : goal.invariant-loop-x
invariant-loop-x l = hex_from l.a (drop l.x-index l.w) ≡ hex_from 0 l.w
