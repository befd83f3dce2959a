use Rattle.std.proofs.Common.{refl, arith}
use Rattle.s390x_text_rows.specs.Control.{rets_text, convention_text}
use Rattle.s390x_text_rows.proofs.Joined.{more_texts}
use Rattle.s390x_text_rows.proofs.control.put_ret_pairs.Goals as goal

pub loop-ret-preserved : goal.loop-ret-preserved
loop-ret-preserved c =
    more_texts rets_text (λ r. convention_text r.vreg r.preg) (λ x xs. refl) c.args.rets.now c.loop-ret.ret-index c.ret-item.result c.ret-item.result _ _ _ (omega arith) c.ret-item.is c.in_ok-put_ret.ensures c.loop-ret.invariant
