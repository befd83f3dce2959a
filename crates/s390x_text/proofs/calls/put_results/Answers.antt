use Rattle.std.proofs.Common.{string_bytes, refl, arith}
use Rattle.s390x_text_rows.specs.Texts.{RefusedBy}
use Rattle.s390x_text.specs.Calls.{result_text, results_text}
use Rattle.s390x_text.proofs.Loops.{more_bytes, more_causes, more_stops, again}
use Rattle.s390x_text.proofs.calls.put_results.Goals as goal

pub loop-def-preserved : goal.loop-def-preserved
loop-def-preserved c =
    record {
      bytes = more_bytes (results_text c.args.state.now) (result_text c.args.state.now) (λ x xs. refl) c.args.defs.now c.loop-def.def-index c.def-item.result c.def-item.result _ (string_bytes c.loop-def.out) _ (omega arith) c.def-item.is c.in_ok-put_result.ensures.1 c.loop-def.invariant.bytes;
      cause = more_causes (results_text c.args.state.now) (result_text c.args.state.now) (λ x xs. refl) c.args.defs.now c.loop-def.def-index c.def-item.result c.def-item.result _ (omega arith) c.def-item.is c.in_ok-put_result.ensures.0 c.loop-def.invariant.cause;
    }

pub returns-in_err-put_result : goal.returns-in_err-put_result
returns-in_err-put_result c =
    again _ (RefusedBy (results_text c.args.state.now c.args.defs.now).cause) c.from_residual.result _ c.from_residual.ensures.1
    (more_stops (results_text c.args.state.now) (result_text c.args.state.now) (λ x xs. refl) c.args.defs.now c.loop-def.def-index c.def-item.result c.def-item.result _ _ (omega arith) c.def-item.is c.in_err-put_result.ensures c.loop-def.invariant.cause)
