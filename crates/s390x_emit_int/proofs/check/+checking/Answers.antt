use Rattle.std.proofs.Common.{◌∙◌, ◌+◌, sym, ap, subst, arith, drop}
use Rattle.std.proofs.lemmas.Result.{err_from_is_err_and}
use Rattle.s390x_typed_steps.specs.Calls.{call_bodies, without_map}
use Rattle.s390x_typed_steps.specs.Causes.{declared_in}
use Rattle.s390x_typed_steps.specs.Tree.{empty, leaves}
use Rattle.s390x_typed_steps.proofs.Trees.{prepend_loop}
use Rattle.s390x_emit_int.specs.Members.{member_of, members_of}
use Rattle.s390x_emit_int.specs.Sequence.{ChecksTree}
use Rattle.s390x_emit_int.proofs.Members.{alone}
use Rattle.s390x_typed_steps.proofs.Baseline.{for_stops}
use Rattle.s390x_typed_steps.proofs.CallRows.{call_stays, tail_stays}
use Rattle.s390x_typed_steps.specs.Baseline.{tree_for}
use Rattle.s390x_emit_int.proofs.Checking.{GoesOn, goes_on, loop_answer, or_cause_of}
use Rattle.s390x_emit_int.proofs.Resolving.{no_stack_cause}
use Rattle.s390x_emit_int.proofs.check.+checking.Goals as goal

pub check_members-loop-inst-preserved : goal.check_members-loop-inst-preserved
check_members-loop-inst-preserved t c =
    let state = c.loop-inst.state in
    let next = c.advance.new.state in
    let k = c.loop-inst.inst-index in
    let is = c.args.insts.now in
    let g : GoesOn c.args.context.flags (declared_in c.args.sink.now) c.args.context.depth c.loop-inst.sum c.in_ok-sum.sum state.nominal next.nominal (members_of c.args.context.flags next (drop (k + 1) is)) (members_of c.args.context.flags state (drop k is)) = goes_on
    state next c.args.context.flags (declared_in c.args.sink.now) c.args.context.depth c.loop-inst.sum _ is k c.inst-item.result (omega arith) c.inst-item.is
    c.in_ok-advance.ensures c.in_ok-sum.ensures.0 c.in_ok-sum.ensures.1 in
    record {
      cause = g.cause ∙ c.loop-inst.invariant.cause;
      labels = g.labels ∙ c.loop-inst.invariant.labels;
      bytes = g.bytes ∙ c.loop-inst.invariant.bytes;
      nominal = g.nominal ∙ c.loop-inst.invariant.nominal;
      counted = c.in_ok-sum.ensures.1.counted;
    }

pub check_members-returns-in_err-sum : goal.check_members-returns-in_err-sum
check_members-returns-in_err-sum t c =
    let p = err_from_is_err_and c.from_residual.result c.from_residual.ensures.1 in
    rw (p.1, p.2) (or_cause_of c.in_err-sum.ensures (λ h. sym c.loop-inst.invariant.cause ∙ for_stops c.args.context.flags c.loop-inst.state (declared_in c.args.sink.now) c.args.context.depth c.loop-inst.sum.labels c.loop-inst.state.nominal c.in_err-sum.field-0.0 c.args.insts.now c.loop-inst.inst-index c.inst-item.result (omega arith) c.inst-item.is h))

-- a member without a cause lets the sizes go on
pub check_members-returns-in_err-advance : goal.check_members-returns-in_err-advance
check_members-returns-in_err-advance t c =
    let none = no_stack_cause c.args.context.flags c.loop-inst.state (declared_in c.args.sink.now) c.loop-inst.sum.labels c.loop-inst.state.nominal c.args.context.depth c.inst-item.result c.in_ok-sum.ensures.0 in
    let some = c.in_err-advance.ensures.0 c.args.context.depth in
    absurd (cc)

pub check_inst-returns-in-Loop : goal.check_inst-returns-in-Loop
check_inst-returns-in-Loop t c =
    let state = c.args.state.now in
    loop_answer c.args.context.flags (declared_in c.args.sink.now) state.nominal c.args.context.depth c.args.t c.in-Loop.cond (member_of c.args.context.flags state c.args.inst.now) (members_of c.args.context.flags (without_map state) c.deref.result.now) c.check_loop.result
    (ap (tree_for c.args.context.flags) (prepend_loop state c.args.inst.now c.in-Loop.cond c.in-Loop.body c.deref.result.now empty c.in-Loop.is c.deref.ensures.value)) c.check_loop.ensures

pub check_inst-returns-in_default : goal.check_inst-returns-in_default
check_inst-returns-in_default t c =
    let state = c.args.state.now in
    let g = alone c.args.context.flags state c.args.inst.now c.in_default.not-Loop c.in_default.not-Call c.in_default.not-ReturnCall in
    subst (λ x. ChecksTree c.args.context.flags (declared_in c.args.sink.now) c.args.t c.args.context.depth state.nominal x c.check_on_machine.result) (sym g) c.check_on_machine.ensures

-- the steps of calls are the same on each machine
pub check_inst-returns-in-Call : goal.check_inst-returns-in-Call
check_inst-returns-in-Call t c =
    let state = c.args.state.now in
    let g = ap (member_of c.args.context.flags state) c.in-Call.is ∙ call_stays c.args.context.flags state c.in-Call.link c.in-Call.info ∙ ap (λ r. leaves (call_bodies state r c.in-Call.info) empty) (sym c.to_reg.ensures) in
    subst (λ x. ChecksTree c.args.context.flags (declared_in c.args.sink.now) c.args.t c.args.context.depth state.nominal x c.check_call.result) (sym g) c.check_call.ensures

pub check_inst-returns-in-ReturnCall : goal.check_inst-returns-in-ReturnCall
check_inst-returns-in-ReturnCall t c =
    let state = c.args.state.now in
    let g = ap (member_of c.args.context.flags state) c.in-ReturnCall.is ∙ tail_stays c.args.context.flags state c.in-ReturnCall.info.callee_pop_size c.in-ReturnCall.info.dest in
    subst (λ x. ChecksTree c.args.context.flags (declared_in c.args.sink.now) c.args.t c.args.context.depth state.nominal x c.check_tail_call.result) (sym g) c.check_tail_call.ensures
