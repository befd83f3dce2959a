use Rattle.std.proofs.Common.{◌≡◌, ◌++◌, drop, string_bytes}
use Rattle.s390x_text.specs.Calls.{more_handlers}
use Rattle.s390x_text.proofs.calls.put_more_handlers.Given as goal

abbrev pub invariant-loop-handler : goal.invariant-loop-handler
invariant-loop-handler l = string_bytes l.out ++ more_handlers (drop l.handler-index l.handlers) ≡ string_bytes l.initial.out ++ more_handlers l.handlers
