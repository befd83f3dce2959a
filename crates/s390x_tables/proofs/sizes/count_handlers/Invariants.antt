use Rattle.std.proofs.Common.{◌≡◌, ◌-◌, ◌^◌, min, take}
use Rattle.s390x_tables.specs.Tables.{handler_count}
use Rattle.s390x_tables.proofs.sizes.count_handlers.Given as goal

abbrev pub invariant-loop-entry : goal.invariant-loop-entry
invariant-loop-entry l = l.count ≡ min (handler_count (take l.entry-index l.tries)) (2 ^ 64 - 1)
