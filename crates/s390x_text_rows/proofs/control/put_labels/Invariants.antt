use Rattle.std.proofs.Common.{◌≡◌, ◌++◌, drop, string_bytes}
use Rattle.s390x_text_rows.specs.Control.{labels_text}
use Rattle.s390x_text_rows.proofs.control.put_labels.Given as goal

abbrev pub invariant-loop-label : goal.invariant-loop-label
invariant-loop-label l = string_bytes l.out ++ labels_text (drop l.label-index l.labels) ≡ string_bytes l.initial.out ++ labels_text l.labels
