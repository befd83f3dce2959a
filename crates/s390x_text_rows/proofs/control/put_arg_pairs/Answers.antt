use Rattle.std.proofs.Common.{refl, arith}
use Rattle.s390x_text_rows.specs.Control.{args_text, convention_text}
use Rattle.s390x_text_rows.proofs.Joined.{more_texts}
use Rattle.s390x_text_rows.proofs.control.put_arg_pairs.Goals as goal

pub loop-arg-preserved : goal.loop-arg-preserved
loop-arg-preserved c =
    more_texts args_text (λ a. convention_text a.vreg a.preg) (λ x xs. refl) c.args.args.now c.loop-arg.arg-index c.arg-item.result c.arg-item.result _ _ _ (omega arith) c.arg-item.is c.in_ok-put_arg.ensures c.loop-arg.invariant
