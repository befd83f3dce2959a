use Rattle.std.proofs.Common.{◌≡◌, drop}
use Rattle.s390x_job_fields.specs.Found.{found_by_name, rows_of}
use Rattle.s390x_job_fields.proofs.word.find.Given as goal

abbrev pub invariant-loop-row : goal.invariant-loop-row
invariant-loop-row g l = found_by_name (rows_of (drop l.row-index l.names)) l.word l.other ≡ found_by_name (rows_of l.names) l.word l.other
