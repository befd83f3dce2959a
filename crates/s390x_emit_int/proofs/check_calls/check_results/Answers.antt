use Rattle.std.proofs.Common.{◌+◌, [], drop, arith, refl}
use Rattle.s390x_typed_steps.specs.Calls.{load_before, load_bodies}
use Rattle.s390x_typed_steps.specs.Causes.{declared_in}
use Rattle.s390x_emit_int.proofs.Sequence.{counts_begin, counts_next, counts_failed, counts_end, loads_next, loads_drained}
use Rattle.s390x_emit_int.proofs.check_calls.check_results.Goals as goal

pub loop-def-init : goal.loop-def-init
loop-def-init c = record {
  goes = counts_begin c.args.context.flags (declared_in c.args.sink.now) c.args.t c.args.context.depth c.args.state.now.nominal (load_bodies c.args.state.now c.args.defs.now);
  counted = c.requires;
}

pub check_result-requires : goal.check_result-requires
check_result-requires c = c.loop-def.invariant.counted

pub loop-def-preserved : goal.loop-def-preserved
loop-def-preserved c =
    let e = c.args.state.now in
    let ds = c.args.defs.now in
    let k = c.loop-def.def-index in
    let d = c.def-item.result in
    let w = loads_next e ds k d (omega arith) c.def-item.is in
    let own = c.in_ok-sum.ensures in
    record {
      goes = counts_next c.args.context.flags (declared_in c.args.sink.now) c.args.t c.loop-def.sum c.in_ok-sum.sum c.args.context.depth e.nominal e.nominal e.nominal (load_before e d.vreg d.location []) (load_bodies e ds) (load_bodies e (drop k ds)) (load_bodies e (drop (k + 1) ds)) w c.loop-def.invariant.goes own.1 refl;
      counted = own.0;
    }

pub returns-in_err-sum : goal.returns-in_err-sum
returns-in_err-sum c =
    let e = c.args.state.now in
    let ds = c.args.defs.now in
    let k = c.loop-def.def-index in
    let d = c.def-item.result in
    let w = loads_next e ds k d (omega arith) c.def-item.is in
    counts_failed c.args.context.flags (declared_in c.args.sink.now) c.args.t c.loop-def.sum c.args.context.depth e.nominal e.nominal e.nominal (load_before e d.vreg d.location []) (load_bodies e ds) (load_bodies e (drop k ds)) (load_bodies e (drop (k + 1) ds)) c.from_residual.result _ w c.loop-def.invariant.goes c.in_err-sum.ensures c.from_residual.ensures.1

pub returns : goal.returns
returns c =
    let e = c.args.state.now in
    let ds = c.args.defs.now in
    counts_end c.args.context.flags (declared_in c.args.sink.now) c.args.t c.loop-def.sum c.args.context.depth e.nominal e.nominal (load_bodies e ds) (load_bodies e (drop c.loop-def.def-index ds)) (loads_drained e ds c.loop-def.def-index (omega arith)) c.loop-def.invariant.counted c.loop-def.invariant.goes
