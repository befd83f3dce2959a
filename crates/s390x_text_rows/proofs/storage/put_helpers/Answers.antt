use Rattle.std.proofs.Common.{◌++◌, refl, arith}
use Rattle.std.specs.Prelude.{codes}
use Rattle.s390x_text_rows.specs.Storage.{helper_text, helpers_text}
use Rattle.s390x_text_rows.proofs.Joined.{more_texts}
use Rattle.s390x_text_rows.proofs.storage.put_helpers.Goals as goal

pub loop-helper-preserved : goal.loop-helper-preserved
loop-helper-preserved c =
    more_texts helpers_text (λ i. helper_text i ++ codes " ; ") (λ x xs. refl) c.args.helpers.now c.loop-helper.helper-index c.helper-item.result c.helper-item.result _ _ _ (omega arith) c.helper-item.is c.in_ok-put_before.ensures c.loop-helper.invariant
