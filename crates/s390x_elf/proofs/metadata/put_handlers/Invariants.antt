use Rattle.std.proofs.Common.{◌≡◌, ◌++◌, drop}
use Rattle.std.specs.List.{flat_map}
use Rattle.s390x_elf.specs.Metadata.{handler_row}
use Rattle.s390x_elf.proofs.metadata.put_handlers.Given as goal

-- what is left leads to what all handlers lead to
abbrev pub invariant-loop-handler : goal.invariant-loop-handler
invariant-loop-handler l = l.numbers.items ++ flat_map (handler_row l.call) (drop l.handler-index l.handlers) ≡ l.initial.numbers.items ++ flat_map (handler_row l.call) l.handlers
