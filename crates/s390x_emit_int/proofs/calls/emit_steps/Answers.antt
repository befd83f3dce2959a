use Rattle.std.proofs.Common.{◌+◌, [], ◌∷◌, drop, arith}
use Rattle.s390x_buffer.proofs.Extending.{extends_on, extends_same}
use Rattle.s390x_typed_steps.specs.Calls.{wholes}
use Rattle.s390x_typed_steps.specs.Resolved.{resolved_instruction}
use Rattle.s390x_typed_steps.specs.Stack.{nominal_after}
use Rattle.s390x_typed_steps.specs.Tree.{Whole}
use Rattle.s390x_emit_int.proofs.Bodies.{wholes_behind}
use Rattle.s390x_emit_int.proofs.Sequence.{goes_same, goes_step, goes_failed, goes_done, goes_room, keep_behind, wholes_drained}
use Rattle.s390x_emit_int.proofs.calls.emit_steps.Goals as goal

pub loop-inst-init : goal.loop-inst-init
loop-inst-init c = record {
  goes = goes_same c.args.context.flags c.args.sink.now c.args.context.after.0 c.args.context.depth c.args.state.now.nominal (wholes c.args.state.now c.args.insts.now);
  keep = c.requires.keep;
  room = c.requires.room;
  kept = extends_same _;
}

pub emit_step-requires : goal.emit_step-requires
emit_step-requires c = c.loop-inst.invariant.room

pub loop-inst-preserved : goal.loop-inst-preserved
loop-inst-preserved c =
    let e = c.args.state.now in
    let is = c.args.insts.now in
    let k = c.loop-inst.inst-index in
    let i = c.inst-item.result in
    let w = wholes_behind e is k i (omega arith) c.inst-item.is in
    let keep = keep_behind is k i (omega arith) c.inst-item.is c.loop-inst.invariant.keep in
    let own = c.in_ok-emit_step.ensures.reaches in
    let after = nominal_after e.nominal i in
    let bs = Whole (resolved_instruction e i) ∷ [] in
    record {
      goes = goes_step c.args.context.flags c.args.sink.now c.loop-inst.sink c.emit_step.new.sink c.args.context.after.0 c.args.context.depth e.nominal e.nominal after bs (wholes e is) (wholes e (drop k is)) (wholes e (drop (k + 1) is)) w c.loop-inst.invariant.goes own (keep.0 e.nominal);
      keep = keep.1;
      room = goes_room c.args.context.flags c.loop-inst.sink c.emit_step.new.sink c.args.context.after.0 c.args.context.depth e.nominal after bs own c.loop-inst.invariant.room;
      kept = extends_on _ _ _ c.loop-inst.invariant.kept c.emit_step.ensures.kept;
    }

pub returns-in_err-emit_step : goal.returns-in_err-emit_step
returns-in_err-emit_step c =
    let e = c.args.state.now in
    let is = c.args.insts.now in
    let k = c.loop-inst.inst-index in
    let i = c.inst-item.result in
    let w = wholes_behind e is k i (omega arith) c.inst-item.is in
    goes_failed c.args.context.flags c.args.sink.now c.loop-inst.sink c.emit_step.new.sink c.args.context.after.0 c.args.context.depth e.nominal e.nominal (nominal_after e.nominal i) e.nominal (Whole (resolved_instruction e i) ∷ []) (wholes e is) (wholes e (drop k is)) (wholes e (drop (k + 1) is))
    c.from_residual.result _ w c.loop-inst.invariant.goes c.loop-inst.invariant.kept c.in_err-emit_step.ensures c.from_residual.ensures.1

pub returns : goal.returns
returns c =
    let e = c.args.state.now in
    let is = c.args.insts.now in
    goes_done c.args.context.flags c.args.sink.now c.loop-inst.sink c.args.context.after.0 c.args.context.depth e.nominal e.nominal (wholes e is) (wholes e (drop c.loop-inst.inst-index is)) _ (wholes_drained e is c.loop-inst.inst-index (omega arith)) c.loop-inst.invariant.goes c.loop-inst.invariant.kept
