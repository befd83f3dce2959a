use Rattle.std.proofs.Common.{◌+◌, [], ◌∷◌, drop, arith}
use Rattle.s390x_typed_steps.specs.Calls.{wholes}
use Rattle.s390x_typed_steps.specs.Causes.{declared_in}
use Rattle.s390x_typed_steps.specs.Resolved.{resolved_instruction}
use Rattle.s390x_typed_steps.specs.Stack.{nominal_after}
use Rattle.s390x_typed_steps.specs.Tree.{Whole}
use Rattle.s390x_emit_int.proofs.Bodies.{wholes_behind}
use Rattle.s390x_emit_int.proofs.Sequence.{counts_begin, counts_next, counts_failed, counts_end, keep_behind, wholes_drained}
use Rattle.s390x_emit_int.proofs.check_calls.check_steps.Goals as goal

pub loop-inst-init : goal.loop-inst-init
loop-inst-init c = record {
  goes = counts_begin c.args.context.flags (declared_in c.args.sink.now) c.args.t c.args.context.depth c.args.state.now.nominal (wholes c.args.state.now c.args.insts.now);
  keep = c.requires.keep;
  counted = c.requires.counted;
}

pub check_step-requires : goal.check_step-requires
check_step-requires c = c.loop-inst.invariant.counted

pub loop-inst-preserved : goal.loop-inst-preserved
loop-inst-preserved c =
    let e = c.args.state.now in
    let is = c.args.insts.now in
    let k = c.loop-inst.inst-index in
    let i = c.inst-item.result in
    let w = wholes_behind e is k i (omega arith) c.inst-item.is in
    let keep = keep_behind is k i (omega arith) c.inst-item.is c.loop-inst.invariant.keep in
    let own = c.in_ok-sum.ensures in
    record {
      goes = counts_next c.args.context.flags (declared_in c.args.sink.now) c.args.t c.loop-inst.sum c.in_ok-sum.sum c.args.context.depth e.nominal e.nominal (nominal_after e.nominal i) (Whole (resolved_instruction e i) ∷ []) (wholes e is) (wholes e (drop k is)) (wholes e (drop (k + 1) is)) w c.loop-inst.invariant.goes own.1 (keep.0 e.nominal);
      keep = keep.1;
      counted = own.0;
    }

pub returns-in_err-sum : goal.returns-in_err-sum
returns-in_err-sum c =
    let e = c.args.state.now in
    let is = c.args.insts.now in
    let k = c.loop-inst.inst-index in
    let i = c.inst-item.result in
    let w = wholes_behind e is k i (omega arith) c.inst-item.is in
    counts_failed c.args.context.flags (declared_in c.args.sink.now) c.args.t c.loop-inst.sum c.args.context.depth e.nominal e.nominal e.nominal (Whole (resolved_instruction e i) ∷ []) (wholes e is) (wholes e (drop k is)) (wholes e (drop (k + 1) is)) c.from_residual.result _ w c.loop-inst.invariant.goes c.in_err-sum.ensures c.from_residual.ensures.1

pub returns : goal.returns
returns c =
    let e = c.args.state.now in
    let is = c.args.insts.now in
    counts_end c.args.context.flags (declared_in c.args.sink.now) c.args.t c.loop-inst.sum c.args.context.depth e.nominal e.nominal (wholes e is) (wholes e (drop c.loop-inst.inst-index is)) (wholes_drained e is c.loop-inst.inst-index (omega arith)) c.loop-inst.invariant.counted c.loop-inst.invariant.goes
