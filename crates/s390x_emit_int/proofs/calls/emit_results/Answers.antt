use Rattle.std.proofs.Common.{◌+◌, [], drop, arith, refl}
use Rattle.s390x_buffer.proofs.Extending.{extends_on, extends_same}
use Rattle.s390x_typed_steps.specs.Calls.{load_before, load_bodies}
use Rattle.s390x_emit_int.proofs.Sequence.{goes_same, goes_step, goes_failed, goes_done, goes_room, loads_next, loads_drained}
use Rattle.s390x_emit_int.proofs.calls.emit_results.Goals as goal

pub loop-def-init : goal.loop-def-init
loop-def-init c = record {
  goes = goes_same c.args.context.flags c.args.sink.now c.args.context.after.0 c.args.context.depth c.args.state.now.nominal (load_bodies c.args.state.now c.args.defs.now);
  room = c.requires;
  kept = extends_same _;
}

pub emit_result-requires : goal.emit_result-requires
emit_result-requires c = c.loop-def.invariant.room

pub loop-def-preserved : goal.loop-def-preserved
loop-def-preserved c =
    let e = c.args.state.now in
    let ds = c.args.defs.now in
    let k = c.loop-def.def-index in
    let w = loads_next e ds k c.def-item.result (omega arith) c.def-item.is in
    let own = c.in_ok-emit_result.ensures.reaches in
    let bs = load_before e c.def-item.result.vreg c.def-item.result.location [] in
    record {
      goes = goes_step c.args.context.flags c.args.sink.now c.loop-def.sink c.emit_result.new.sink c.args.context.after.0 c.args.context.depth e.nominal e.nominal e.nominal bs (load_bodies e ds) (load_bodies e (drop k ds)) (load_bodies e (drop (k + 1) ds)) w c.loop-def.invariant.goes own refl;
      room = goes_room c.args.context.flags c.loop-def.sink c.emit_result.new.sink c.args.context.after.0 c.args.context.depth e.nominal e.nominal bs own c.loop-def.invariant.room;
      kept = extends_on _ _ _ c.loop-def.invariant.kept c.emit_result.ensures.kept;
    }

pub returns-in_err-emit_result : goal.returns-in_err-emit_result
returns-in_err-emit_result c =
    let e = c.args.state.now in
    let ds = c.args.defs.now in
    let k = c.loop-def.def-index in
    let w = loads_next e ds k c.def-item.result (omega arith) c.def-item.is in
    goes_failed c.args.context.flags c.args.sink.now c.loop-def.sink c.emit_result.new.sink c.args.context.after.0 c.args.context.depth e.nominal e.nominal e.nominal e.nominal (load_before e c.def-item.result.vreg c.def-item.result.location []) (load_bodies e ds) (load_bodies e (drop k ds)) (load_bodies e (drop (k + 1) ds))
    c.from_residual.result _ w c.loop-def.invariant.goes c.loop-def.invariant.kept c.in_err-emit_result.ensures c.from_residual.ensures.1

pub returns : goal.returns
returns c =
    let e = c.args.state.now in
    let ds = c.args.defs.now in
    goes_done c.args.context.flags c.args.sink.now c.loop-def.sink c.args.context.after.0 c.args.context.depth e.nominal e.nominal (load_bodies e ds) (load_bodies e (drop c.loop-def.def-index ds)) _ (loads_drained e ds c.loop-def.def-index (omega arith)) c.loop-def.invariant.goes c.loop-def.invariant.kept
