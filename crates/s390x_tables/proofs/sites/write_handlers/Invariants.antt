use Rattle.std.proofs.Common.{◌≡◌, take}
use Rattle.s390x_tables.specs.Tables.{handler_count, handlers_of, overwritten}
use Rattle.s390x_tables.proofs.sites.write_handlers.Given as goal

abbrev pub invariant-loop-entry : goal.invariant-loop-entry
invariant-loop-entry l = record {
  written : l.written ≡ handler_count (take l.entry-index l.tries);
  entries : l.out ≡ overwritten l.initial.out (handlers_of (take l.entry-index l.tries));
}
