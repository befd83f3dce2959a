use Rattle.std.proofs.Common.{◌≡◌, take, map}
use Rattle.s390x_tables.specs.Tables.{overwritten}
use Rattle.s390x_tables.proofs.write.write_entries.Given as goal

abbrev pub invariant-loop-place : goal.invariant-loop-place
invariant-loop-place g l = l.out ≡ overwritten l.initial.out (map g.E.Flatten.flat (take l.place l.entries))
