use Rattle.std.proofs.Common.{◌≡◌, drop, map}
use Rattle.s390x_inst.specs.declared.calls.TryCallHandler.{TryCallHandler}
use Rattle.s390x_typed_steps.specs.Calls.{handler_of}
use Rattle.s390x_typed_steps.specs.Causes.{labels_cause}
use Rattle.s390x_emit_int.proofs.calls.handlers_cause.Given as goal

abbrev pub invariant-loop-handler : goal.invariant-loop-handler
invariant-loop-handler l =
    labels_cause l.blocks (map (λ (h : TryCallHandler). (handler_of h).label) (drop l.handler-index l.handlers)) ≡ labels_cause l.blocks (map (λ (h : TryCallHandler). (handler_of h).label) l.handlers)
