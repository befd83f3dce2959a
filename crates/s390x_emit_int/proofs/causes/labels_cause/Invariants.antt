use Rattle.std.proofs.Common.{◌≡◌, drop}
use Rattle.s390x_typed_steps.specs.Causes.{labels_cause}
use Rattle.s390x_emit_int.proofs.causes.labels_cause.Given as goal

abbrev pub invariant-loop-label : goal.invariant-loop-label
invariant-loop-label l = labels_cause l.blocks (drop l.label-index l.labels) ≡ labels_cause l.blocks l.labels
