use Rattle.std.proofs.Common.{true, string_bytes, refl, arith}
use Rattle.s390x_text_rows.specs.Texts.{RefusedBy, before_semicolon}
use Rattle.s390x_text_rows.specs.Simple.{simple_text}
use Rattle.s390x_text.specs.Calls.{simple_texts}
use Rattle.s390x_text.proofs.Loops.{more_bytes, more_causes, more_stops, again}
use Rattle.s390x_text.proofs.calls.put_simples.Goals as goal

pub loop-inst-preserved : goal.loop-inst-preserved
loop-inst-preserved c =
    record {
      bytes = more_bytes (simple_texts c.args.state.now) (λ i. before_semicolon (simple_text true c.args.state.now i)) (λ x xs. refl) c.args.insts.now c.loop-inst.inst-index c.inst-item.result c.inst-item.result _ (string_bytes c.loop-inst.out) _ (omega arith) c.inst-item.is c.in_ok-put_before.ensures.1 c.loop-inst.invariant.bytes;
      cause = more_causes (simple_texts c.args.state.now) (λ i. before_semicolon (simple_text true c.args.state.now i)) (λ x xs. refl) c.args.insts.now c.loop-inst.inst-index c.inst-item.result c.inst-item.result _ (omega arith) c.inst-item.is c.in_ok-put_before.ensures.0 c.loop-inst.invariant.cause;
    }

pub returns-in_err-put_before : goal.returns-in_err-put_before
returns-in_err-put_before c =
    again _ (RefusedBy (simple_texts c.args.state.now c.args.insts.now).cause) c.from_residual.result _ c.from_residual.ensures.1
    (more_stops (simple_texts c.args.state.now) (λ i. before_semicolon (simple_text true c.args.state.now i)) (λ x xs. refl) c.args.insts.now c.loop-inst.inst-index c.inst-item.result c.inst-item.result _ _ (omega arith) c.inst-item.is c.in_err-put_before.ensures c.loop-inst.invariant.cause)
