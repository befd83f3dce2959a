use Rattle.std.proofs.Common.{◌≡◌, take}
use Rattle.s390x_tables.specs.Tables.{handler_count, overwritten, tries_from}
use Rattle.s390x_tables.proofs.sites.write_tries.Given as goal

abbrev pub invariant-loop-place : goal.invariant-loop-place
invariant-loop-place l = record {
  before : l.before ≡ handler_count (take l.place l.tries);
  written : l.out ≡ overwritten l.initial.out (tries_from 0 (take l.place l.tries));
}
