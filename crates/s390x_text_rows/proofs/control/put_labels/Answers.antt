use Rattle.std.proofs.Common.{◌++◌, get_or, refl, arith}
use Rattle.std.specs.Prelude.{codes}
use Rattle.s390x_base.specs.declared.ir.MachLabel.{MachLabel}
use Rattle.s390x_text_rows.specs.Operands.{label_text}
use Rattle.s390x_text_rows.specs.Control.{labels_text}
use Rattle.s390x_text_rows.proofs.Joined.{more_texts}
use Rattle.s390x_text_rows.proofs.control.put_labels.Goals as goal

-- what a list has past its end
abbrev nothing : MachLabel
nothing = record { 0 = 0 }

pub loop-label-preserved : goal.loop-label-preserved
loop-label-preserved c =
    let ls = c.args.labels.now in
    let k = c.loop-label.label-index in
    more_texts labels_text (λ l. codes " " ++ label_text l.0) (λ x xs. refl) ls k nothing (get_or ls k nothing) _ _ _ (omega arith) refl c.in_ok-put_label.ensures c.loop-label.invariant
