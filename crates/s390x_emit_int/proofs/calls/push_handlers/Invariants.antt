use Rattle.std.proofs.Common.{◌≡◌, ◌++◌, drop, map}
use Rattle.s390x_typed_steps.specs.Calls.{handler_of}
use Rattle.s390x_emit_int.proofs.calls.push_handlers.Given as goal

abbrev pub invariant-loop-handler : goal.invariant-loop-handler
invariant-loop-handler l = l.entries.items ++ map handler_of (drop l.handler-index l.handlers) ≡ map handler_of l.handlers
