use Rattle.std.proofs.Common.{◌++◌, length, refl, ap}
use Rattle.s390x_typed_steps.specs.Calls.{calling, result_bodies, continuation_bodies}
use Rattle.s390x_typed_steps.specs.Tree.{CallStep}
use Rattle.s390x_emit_int.proofs.Bodies.{body_room}
use Rattle.s390x_emit_int.proofs.Sequence.{call_emits, call_loads_failed, call_step_failed, goes_room}
use Rattle.s390x_emit_int.proofs.calls.emit_call.Goals as goal

pub returns-in_err-emit_call_step : goal.returns-in_err-emit_call_step
returns-in_err-emit_call_step c =
    let e = c.args.state.now in
    let info = c.args.info.now in
    call_step_failed c.args.context.flags c.args.sink.now c.emit_call_step.new.sink c.args.context.after.0 c.args.context.depth e.nominal (calling e c.args.link info) (result_bodies e info ++ continuation_bodies info.try_call_info) c.from_residual.result _
    c.from_residual.ensures.1 (c.in_err-emit_call_step.ensures.only_memory c.args.context.after.0) c.emit_call_step.ensures.kept

pub emit_loads-requires : goal.emit_loads-requires
emit_loads-requires c =
    body_room (CallStep (calling c.args.state.now c.args.link c.args.info.now)) c.args.sink.now c.emit_call_step.new.sink (length c.args.sink.now.labels) c.args.context.after.0 refl c.in_ok-emit_call_step.ensures.answer c.requires

pub returns-in_err-emit_loads : goal.returns-in_err-emit_loads
returns-in_err-emit_loads c =
    let e = c.args.state.now in
    let info = c.args.info.now in
    let behind = c.behind_call-behind.ensures in
    call_loads_failed c.args.context.flags c.args.sink.now c.emit_call_step.new.sink c.emit_loads.new.sink c.args.context.after.0 c.args.context.depth e.nominal c.behind_call-behind.result.nominal (calling e c.args.link info) (result_bodies e info) (continuation_bodies info.try_call_info)
    c.from_residual-in_err-emit_loads.result _ c.from_residual-in_err-emit_loads.ensures.1 (ap (λ x. x.nominal) behind) c.in_ok-emit_call_step.ensures.answer c.emit_call_step.ensures.kept (c.in_err-emit_loads.ensures e behind)

pub emit_continuation-requires : goal.emit_continuation-requires
emit_continuation-requires c =
    let e = c.args.state.now in
    let m = c.behind_call-behind.result.nominal in
    let room = body_room (CallStep (calling e c.args.link c.args.info.now)) c.args.sink.now c.emit_call_step.new.sink (length c.args.sink.now.labels) c.args.context.after.0 refl c.in_ok-emit_call_step.ensures.answer c.requires in
    let loads = c.in_ok-emit_loads.ensures e c.behind_call-behind.ensures in
    goes_room c.args.context.flags c.emit_call_step.new.sink c.emit_loads.new.sink c.args.context.after.0 c.args.context.depth m m (result_bodies e c.args.info.now) loads.reaches room

pub returns : goal.returns
returns c =
    let e = c.args.state.now in
    let info = c.args.info.now in
    let behind = c.behind_call-behind.ensures in
    let loads = c.in_ok-emit_loads.ensures e behind in
    call_emits c.args.context.flags c.args.sink.now c.emit_call_step.new.sink c.emit_loads.new.sink c.emit_continuation.new.sink c.args.context.after.0 c.args.context.depth e.nominal c.behind_call-behind.result.nominal (calling e c.args.link info) (result_bodies e info) (continuation_bodies info.try_call_info)
    c.emit_continuation.result (ap (λ x. x.nominal) behind) c.in_ok-emit_call_step.ensures.cause c.in_ok-emit_call_step.ensures.answer c.emit_call_step.ensures.kept loads.reaches loads.kept c.emit_continuation.ensures
