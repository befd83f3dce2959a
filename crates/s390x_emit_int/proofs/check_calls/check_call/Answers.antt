use Rattle.std.proofs.Common.{ap, sym, subst, ◌∙◌}
use Rattle.s390x_typed_steps.specs.Calls.{calling, result_bodies, continuation_bodies}
use Rattle.s390x_typed_steps.specs.Causes.{call_cause, declared_in}
use Rattle.s390x_typed_steps.specs.Tree.{CallStep}
use Rattle.s390x_emit_int.specs.CodeSize.{Adds}
use Rattle.s390x_emit_int.proofs.CallSites.{call_step_size}
use Rattle.s390x_emit_int.proofs.Sequence.{body_checks, steps_refused}
use Rattle.s390x_emit_int.proofs.check_calls.check_call.Goals as goal

pub returns-in_err-loaded : goal.returns-in_err-loaded
returns-in_err-loaded c =
    let e = c.args.state.now in
    let info = c.args.info.now in
    let D = declared_in c.args.sink.now in
    let call = calling e c.args.link info in
    let called = c.add_bytes-called.result in
    let behind = c.behind_call-behind.ensures in
    let none = ap (λ b. call_cause b e.nominal c.args.context.depth call) (sym c.block_count.ensures) ∙ sym c.call_cause.ensures ∙ c.in_default.is in
    let adds = subst (λ n. Adds c.args.t called 0 n) (c.call_size.ensures.value ∙ sym (call_step_size e c.args.link info)) c.add_bytes-called.ensures in
    steps_refused c.args.context.flags D c.args.t called c.args.context.depth e.nominal c.behind_call-behind.result.nominal (CallStep call) (result_bodies e info) (continuation_bodies info.try_call_info) c.from_residual.result _ (ap (λ x. x.nominal) behind) c.from_residual.ensures.1 none adds
    (c.in_err-loaded.ensures e behind)

pub returns : goal.returns
returns c =
    let e = c.args.state.now in
    let info = c.args.info.now in
    let D = declared_in c.args.sink.now in
    let call = calling e c.args.link info in
    let called = c.add_bytes-called.result in
    let behind = c.behind_call-behind.ensures in
    let none = ap (λ b. call_cause b e.nominal c.args.context.depth call) (sym c.block_count.ensures) ∙ sym c.call_cause.ensures ∙ c.in_default.is in
    let adds = subst (λ n. Adds c.args.t called 0 n) (c.call_size.ensures.value ∙ sym (call_step_size e c.args.link info)) c.add_bytes-called.ensures in
    let loads = c.in_ok-loaded.ensures e behind in
    body_checks c.args.context.flags D c.args.t called c.in_ok-loaded.loaded c.args.context.depth e.nominal c.behind_call-behind.result.nominal (CallStep call) (result_bodies e info) (continuation_bodies info.try_call_info) c.check_continuation.result (ap (λ x. x.nominal) behind) none adds
    loads.1 c.check_continuation.ensures
