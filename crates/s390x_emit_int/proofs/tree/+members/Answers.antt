use Rattle.std.proofs.Common.{None, length, arith, ap, sym, ◌∙◌, subst, drop, ◌+◌, ◌<◌, ◌≡◌}
use Rattle.s390x_buffer.proofs.Extending.{extends_on, extends_bound}
use Rattle.s390x_emit_int.proofs.Binding.{bound_kept}
use Rattle.s390x_typed_steps.specs.Calls.{call_bodies, without_map}
use Rattle.s390x_typed_steps.specs.Tree.{empty, leaves, loop_node}
use Rattle.s390x_typed_steps.proofs.CallRows.{call_stays, tail_stays}
use Rattle.s390x_typed_steps.proofs.Trees.{prepend_loop}
use Rattle.s390x_typed_steps.specs.Baseline.{tree_for}
use Rattle.s390x_emit_int.specs.Members.{member_of, members_of}
use Rattle.s390x_emit_int.proofs.Members.{alone}
use Rattle.s390x_emit_int.specs.Room.{TreeFits}
use Rattle.s390x_emit_int.specs.Fragments.{apply_all}
use Rattle.s390x_emit_int.specs.Emission.{own_fragments, fragments}
use Rattle.s390x_typed_steps.specs.Ranges.{AllInRange}
use Rattle.s390x_emit_int.proofs.Trees.{more, more_ranges, more_room, loop_states}
use Rattle.s390x_typed_steps.specs.Causes.{declared_in, tree_cause}
use Rattle.s390x_emit_int.proofs.Answering.{on_ok, on_both}
use Rattle.s390x_emit_int.proofs.Emitting.{more_cause, more_nominal, loop_none}
use Rattle.s390x_emit_int.proofs.OnlyMemory.{fails_with_none, only_memory_again, only_memory_of_call, mark_none, label_none}
use Rattle.s390x_emit_int.proofs.Passing.{member_passed, others_passed, loop_passed, members_unpoisoned, body_turns, back_passed, end_below, member_stack, inner_passed, turns_on, draw_turns, bind_turns}
use Rattle.s390x_typed_steps.specs.Stack.{state_after}
use Rattle.s390x_inst.specs.Emission.{Emission}
use Rattle.s390x_emit_int.proofs.tree.+members.Goals as goal

pub emit_inst-returns-in-Loop-clause-answer : goal.emit_inst-returns-in-Loop-clause-answer
emit_inst-returns-in-Loop-clause-answer t c =
    let g = ap (tree_for c.args.context.flags) (prepend_loop c.args.state.now c.args.inst.now c.in-Loop.cond c.in-Loop.body c.deref.result.now empty c.in-Loop.is c.deref.ensures.value) in
    on_ok c.emit_loop.result c.emit_loop.ensures.answer (λ e. e ∙ ap (λ x. apply_all c.args.sink.now (own_fragments (length c.args.sink.now.labels) c.args.context.after.0 x)) (sym g))

pub emit_inst-returns-in-Loop-clause-ranges : goal.emit_inst-returns-in-Loop-clause-ranges
emit_inst-returns-in-Loop-clause-ranges t c =
    let g = ap (tree_for c.args.context.flags) (prepend_loop c.args.state.now c.args.inst.now c.in-Loop.cond c.in-Loop.body c.deref.result.now empty c.in-Loop.is c.deref.ensures.value) in
    on_ok c.emit_loop.result c.emit_loop.ensures.ranges (λ f. subst AllInRange (sym g) f)

pub emit_inst-returns-in_default-clause-answer : goal.emit_inst-returns-in_default-clause-answer
emit_inst-returns-in_default-clause-answer t c =
    let g = alone c.args.context.flags c.args.state.now c.args.inst.now c.in_default.not-Loop c.in_default.not-Call c.in_default.not-ReturnCall in
    on_ok c.emit_on_machine.result c.emit_on_machine.ensures.answer (λ e. e ∙ ap (λ x. apply_all c.args.sink.now (own_fragments (length c.args.sink.now.labels) c.args.context.after.0 x)) (sym g))

pub emit_inst-returns-in_default-clause-ranges : goal.emit_inst-returns-in_default-clause-ranges
emit_inst-returns-in_default-clause-ranges t c =
    let g = alone c.args.context.flags c.args.state.now c.args.inst.now c.in_default.not-Loop c.in_default.not-Call c.in_default.not-ReturnCall in
    on_ok c.emit_on_machine.result c.emit_on_machine.ensures.ranges (λ f. subst AllInRange (sym g) f)

pub emit_inst-returns-in-Loop-clause-only_memory : goal.emit_inst-returns-in-Loop-clause-only_memory
emit_inst-returns-in-Loop-clause-only_memory t c =
    let g = ap (tree_for c.args.context.flags) (prepend_loop c.args.state.now c.args.inst.now c.in-Loop.cond c.in-Loop.body c.deref.result.now empty c.in-Loop.is c.deref.ensures.value) in
    λ p. c.emit_loop.ensures.only_memory c.args.context.after.0 (subst (TreeFits c.args.context.flags c.args.sink.now c.args.context.after.0 c.args.state.now.nominal c.args.context.depth) g p)

pub emit_inst-returns-in_default-clause-only_memory : goal.emit_inst-returns-in_default-clause-only_memory
emit_inst-returns-in_default-clause-only_memory t c =
    let g = alone c.args.context.flags c.args.state.now c.args.inst.now c.in_default.not-Loop c.in_default.not-Call c.in_default.not-ReturnCall in
    λ p. c.emit_on_machine.ensures.only_memory (subst (TreeFits c.args.context.flags c.args.sink.now c.args.context.after.0 c.args.state.now.nominal c.args.context.depth) g p)

pub emit_inst-returns-in-Loop-clause-cause : goal.emit_inst-returns-in-Loop-clause-cause
emit_inst-returns-in-Loop-clause-cause t c =
    let s = c.args.sink.now in
    let g = ap (tree_for c.args.context.flags) (prepend_loop c.args.state.now c.args.inst.now c.in-Loop.cond c.in-Loop.body c.deref.result.now empty c.in-Loop.is c.deref.ensures.value) in
    on_ok c.emit_loop.result c.emit_loop.ensures.cause (λ e. ap (tree_cause c.args.context.flags (declared_in s) (length s.labels) c.args.state.now.nominal c.args.context.depth) g ∙ e)

pub emit_inst-returns-in_default-clause-cause : goal.emit_inst-returns-in_default-clause-cause
emit_inst-returns-in_default-clause-cause t c =
    let s = c.args.sink.now in
    let g = alone c.args.context.flags c.args.state.now c.args.inst.now c.in_default.not-Loop c.in_default.not-Call c.in_default.not-ReturnCall in
    on_ok c.emit_on_machine.result c.emit_on_machine.ensures.cause (λ e. ap (tree_cause c.args.context.flags (declared_in s) (length s.labels) c.args.state.now.nominal c.args.context.depth) g ∙ e)

-- ---- calls, whose steps are the same on each machine

pub emit_inst-returns-in-Call-clause-answer : goal.emit_inst-returns-in-Call-clause-answer
emit_inst-returns-in-Call-clause-answer t c =
    let g = ap (member_of c.args.context.flags c.args.state.now) c.in-Call.is ∙ call_stays c.args.context.flags c.args.state.now c.in-Call.link c.in-Call.info ∙ ap (λ r. leaves (call_bodies c.args.state.now r c.in-Call.info) empty) (sym c.to_reg.ensures) in
    on_ok c.emit_call.result c.emit_call.ensures.answer (λ e. e ∙ ap (λ x. apply_all c.args.sink.now (own_fragments (length c.args.sink.now.labels) c.args.context.after.0 x)) (sym g))

pub emit_inst-returns-in-Call-clause-ranges : goal.emit_inst-returns-in-Call-clause-ranges
emit_inst-returns-in-Call-clause-ranges t c =
    let g = ap (member_of c.args.context.flags c.args.state.now) c.in-Call.is ∙ call_stays c.args.context.flags c.args.state.now c.in-Call.link c.in-Call.info ∙ ap (λ r. leaves (call_bodies c.args.state.now r c.in-Call.info) empty) (sym c.to_reg.ensures) in
    on_ok c.emit_call.result c.emit_call.ensures.ranges (λ f. subst AllInRange (sym g) f)

pub emit_inst-returns-in-Call-clause-only_memory : goal.emit_inst-returns-in-Call-clause-only_memory
emit_inst-returns-in-Call-clause-only_memory t c =
    let g = ap (member_of c.args.context.flags c.args.state.now) c.in-Call.is ∙ call_stays c.args.context.flags c.args.state.now c.in-Call.link c.in-Call.info ∙ ap (λ r. leaves (call_bodies c.args.state.now r c.in-Call.info) empty) (sym c.to_reg.ensures) in
    λ p. c.emit_call.ensures.only_memory (subst (TreeFits c.args.context.flags c.args.sink.now c.args.context.after.0 c.args.state.now.nominal c.args.context.depth) g p)

pub emit_inst-returns-in-Call-clause-cause : goal.emit_inst-returns-in-Call-clause-cause
emit_inst-returns-in-Call-clause-cause t c =
    let s = c.args.sink.now in
    let g = ap (member_of c.args.context.flags c.args.state.now) c.in-Call.is ∙ call_stays c.args.context.flags c.args.state.now c.in-Call.link c.in-Call.info ∙ ap (λ r. leaves (call_bodies c.args.state.now r c.in-Call.info) empty) (sym c.to_reg.ensures) in
    on_ok c.emit_call.result c.emit_call.ensures.cause (λ e. ap (tree_cause c.args.context.flags (declared_in s) (length s.labels) c.args.state.now.nominal c.args.context.depth) g ∙ e)

pub emit_inst-returns-in-ReturnCall-clause-answer : goal.emit_inst-returns-in-ReturnCall-clause-answer
emit_inst-returns-in-ReturnCall-clause-answer t c =
    let g = ap (member_of c.args.context.flags c.args.state.now) c.in-ReturnCall.is ∙ tail_stays c.args.context.flags c.args.state.now c.in-ReturnCall.info.callee_pop_size c.in-ReturnCall.info.dest in
    on_ok c.emit_tail_call.result c.emit_tail_call.ensures.answer (λ e. e ∙ ap (λ x. apply_all c.args.sink.now (own_fragments (length c.args.sink.now.labels) c.args.context.after.0 x)) (sym g))

pub emit_inst-returns-in-ReturnCall-clause-ranges : goal.emit_inst-returns-in-ReturnCall-clause-ranges
emit_inst-returns-in-ReturnCall-clause-ranges t c =
    let g = ap (member_of c.args.context.flags c.args.state.now) c.in-ReturnCall.is ∙ tail_stays c.args.context.flags c.args.state.now c.in-ReturnCall.info.callee_pop_size c.in-ReturnCall.info.dest in
    on_ok c.emit_tail_call.result c.emit_tail_call.ensures.ranges (λ f. subst AllInRange (sym g) f)

pub emit_inst-returns-in-ReturnCall-clause-only_memory : goal.emit_inst-returns-in-ReturnCall-clause-only_memory
emit_inst-returns-in-ReturnCall-clause-only_memory t c =
    let g = ap (member_of c.args.context.flags c.args.state.now) c.in-ReturnCall.is ∙ tail_stays c.args.context.flags c.args.state.now c.in-ReturnCall.info.callee_pop_size c.in-ReturnCall.info.dest in
    λ p. c.emit_tail_call.ensures.only_memory (subst (TreeFits c.args.context.flags c.args.sink.now c.args.context.after.0 c.args.state.now.nominal c.args.context.depth) g p)

pub emit_inst-returns-in-ReturnCall-clause-cause : goal.emit_inst-returns-in-ReturnCall-clause-cause
emit_inst-returns-in-ReturnCall-clause-cause t c =
    let s = c.args.sink.now in
    let g = ap (member_of c.args.context.flags c.args.state.now) c.in-ReturnCall.is ∙ tail_stays c.args.context.flags c.args.state.now c.in-ReturnCall.info.callee_pop_size c.in-ReturnCall.info.dest in
    on_ok c.emit_tail_call.result c.emit_tail_call.ensures.cause (λ e. ap (tree_cause c.args.context.flags (declared_in s) (length s.labels) c.args.state.now.nominal c.args.context.depth) g ∙ e)

pub emit_members-loop-inst-preserved : goal.emit_members-loop-inst-preserved
emit_members-loop-inst-preserved t c =
    let flags = c.args.context.flags in
    let depth = c.args.context.depth in
    let is = c.args.insts.now in
    let k = c.loop-inst.inst-index in
    let here = c.loop-inst.state in
    let i = c.inst-item.result in
    let next = c.advance.new.state in
    let on : next ≡ state_after here i = c.in_ok-advance.ensures in
    let s = c.loop-inst.sink in
    let s1 = c.start_step.new.self in
    let s2 = c.emit_inst.new.sink in
    let after = c.args.context.after.0 in
    let lt : k < length is = omega arith in
    let e1 = c.in_ok-start_step.ensures.answer.1 in
    let e2 = c.in_ok-emit_inst.ensures.answer in
    record {
      kept = extends_on _ _ _ c.loop-inst.invariant.kept (extends_on _ _ _ c.start_step.ensures.kept c.emit_inst.ensures.kept);
      room = more_room flags here i s s1 s2 after c.loop-inst.invariant.room e1 e2;
      rest = ap (λ e. apply_all s2 (fragments (length s2.labels) after (members_of flags e (drop (k + 1) is)))) on ∙ more flags here is k i s s1 s2 _ after lt c.inst-item.is e1 e2 c.loop-inst.invariant.rest;
      cause = more_cause flags here next s s1 s2 after depth is k i lt c.inst-item.is e1 e2 on c.in_ok-emit_inst.ensures.cause ∙ c.loop-inst.invariant.cause;
      nominal = more_nominal flags here next is k i lt c.inst-item.is on ∙ c.loop-inst.invariant.nominal;
      passed = λ p. subst (λ (e : Emission). TreeFits flags s2 after e.nominal depth (members_of flags e (drop (k + 1) is))) (sym on) (others_passed here flags s s1 s2 after depth is k i lt c.inst-item.is e1 e2 (c.loop-inst.invariant.passed p));
      ranges = λ f. c.loop-inst.invariant.ranges (more_ranges flags here is k i lt c.inst-item.is c.in_ok-emit_inst.ensures.ranges (subst (λ e. AllInRange (members_of flags e (drop (k + 1) is))) on f));
    }

pub emit_members-returns-in_err-advance-clause-kept : goal.emit_members-returns-in_err-advance-clause-kept
emit_members-returns-in_err-advance-clause-kept t c = extends_on _ _ _ c.loop-inst.invariant.kept (extends_on _ _ _ c.start_step.ensures.kept c.emit_inst.ensures.kept)

pub emit_members-returns-in_err-advance-clause-only_memory : goal.emit_members-returns-in_err-advance-clause-only_memory
emit_members-returns-in_err-advance-clause-only_memory t c = λ p.
    let none = member_stack c.loop-inst.state c.args.context.flags c.loop-inst.sink c.args.context.after.0 c.args.context.depth c.args.insts.now c.loop-inst.inst-index c.inst-item.result (omega arith) c.inst-item.is (c.loop-inst.invariant.passed p) in
    let some = c.in_err-advance.ensures.0 c.args.context.depth in
    absurd (cc)

pub emit_members-returns-in_err-emit_inst-clause-kept : goal.emit_members-returns-in_err-emit_inst-clause-kept
emit_members-returns-in_err-emit_inst-clause-kept t c = extends_on _ _ _ c.loop-inst.invariant.kept (extends_on _ _ _ c.start_step.ensures.kept c.emit_inst.ensures.kept)

pub emit_loop-bind_label-requires-2-clause-unbound : goal.emit_loop-bind_label-requires-2-clause-unbound
emit_loop-bind_label-requires-2-clause-unbound t c =
    let inside = c.clear_post_insn.new.self in
    let l = loop_states c.args.sink.now c.get_label.new.self c.get_label-2.new.self c.bind_label.new.self c.emit_members.new.sink
    c.start_step.new.self c.put_branch.new.sink c.in_ok-start.start.0 c.in_ok-end.end.0 c.bits-mask.result
    (members_of c.args.context.flags inside c.args.body.now) c.in_ok-start.ensures.answer.1 c.in_ok-start.ensures.answer.2 c.in_ok-end.ensures.answer.1
    c.in_ok-end.ensures.answer.2 c.in_ok-bind_label.ensures.answer.1 c.in_ok-emit_members.ensures.answer c.in_ok-start_step.ensures.answer.1
    c.in_ok-put_branch.ensures.answer in
    l.free

pub emit_loop-returns-clause-answer : goal.emit_loop-returns-clause-answer
emit_loop-returns-clause-answer t c =
    let inside = c.clear_post_insn.new.self in
    let l = loop_states c.args.sink.now c.get_label.new.self c.get_label-2.new.self c.bind_label.new.self c.emit_members.new.sink
    c.start_step.new.self c.put_branch.new.sink c.in_ok-start.start.0 c.in_ok-end.end.0 c.bits-mask.result
    (members_of c.args.context.flags inside c.args.body.now) c.in_ok-start.ensures.answer.1 c.in_ok-start.ensures.answer.2 c.in_ok-end.ensures.answer.1
    c.in_ok-end.ensures.answer.2 c.in_ok-bind_label.ensures.answer.1 c.in_ok-emit_members.ensures.answer c.in_ok-start_step.ensures.answer.1
    c.in_ok-put_branch.ensures.answer in
    on_both _ c.bind_label-2.result c.bind_label-2.ensures.answer (λ p. l.after c.bind_label-2.new.self p.1 ∙ ap (λ m. apply_all c.args.sink.now (own_fragments (length c.args.sink.now.labels) 0 (loop_node m (members_of c.args.context.flags inside c.args.body.now) empty))) c.bits-mask.ensures.value
    ∙ ap (λ (e : Emission). apply_all c.args.sink.now (own_fragments (length c.args.sink.now.labels) 0 (loop_node c.args.cond (members_of c.args.context.flags e c.args.body.now) empty))) c.clear_post_insn.ensures)

pub emit_loop-returns-clause-kept : goal.emit_loop-returns-clause-kept
emit_loop-returns-clause-kept t c =
    let begun = bound_kept c.args.sink.now c.get_label.new.self c.get_label-2.new.self c.bind_label.new.self c.in_ok-start.start.0 c.get_label.ensures.kept c.get_label-2.ensures.kept c.in_ok-start.ensures.answer.1 c.bind_label.ensures.kept in
    let branched = extends_on _ _ _ begun (extends_on _ _ _ c.emit_members.ensures.kept (extends_on _ _ _ c.start_step.ensures.kept c.put_branch.ensures.kept)) in
    extends_bound _ _ _ _ branched (omega (arith, c.get_label.ensures.kept.entries.label_count, c.in_ok-end.ensures.answer.1)) c.bind_label-2.ensures.kept

pub emit_members-returns-in_err-emit_inst-clause-only_memory : goal.emit_members-returns-in_err-emit_inst-clause-only_memory
emit_members-returns-in_err-emit_inst-clause-only_memory t c = λ p.
    only_memory_again c.from_residual-in_err-emit_inst.result _ c.from_residual-in_err-emit_inst.ensures.1
    (c.in_err-emit_inst.ensures.only_memory (member_passed c.loop-inst.state c.args.context.flags c.loop-inst.sink c.start_step.new.self c.args.context.after.0 c.args.context.depth c.args.insts.now c.loop-inst.inst-index c.inst-item.result (omega arith) c.inst-item.is c.in_ok-start_step.ensures.answer.1 (c.loop-inst.invariant.passed p)))

pub emit_loop-returns-in_err-start_step-clause-only_memory : goal.emit_loop-returns-in_err-start_step-clause-only_memory
emit_loop-returns-in_err-start_step-clause-only_memory t c = λ after p.
    let inside = c.clear_post_insn.new.self in
    let same : inside ≡ without_map c.args.state.now = c.clear_post_insn.ensures in
    let q = subst (λ (e : Emission). TreeFits c.args.context.flags c.args.sink.now after e.nominal c.args.context.depth (loop_node c.args.cond (members_of c.args.context.flags e c.args.body.now) empty)) (sym same) p in
    let l = loop_passed c.args.context.flags c.args.sink.now after inside.nominal c.args.context.depth c.args.cond (members_of c.args.context.flags inside c.args.body.now) q in
    only_memory_again c.from_residual-in_err-start_step.result _ c.from_residual-in_err-start_step.ensures.1
    (fails_with_none _ _ (mark_none c.emit_members.new.sink (members_unpoisoned c.args.sink.now c.get_label.new.self c.get_label-2.new.self
    c.bind_label.new.self c.emit_members.new.sink c.in_ok-start.start.0 c.in_ok-end.end.0 (members_of c.args.context.flags inside c.args.body.now)
    c.in_ok-start.ensures.answer.2 c.in_ok-end.ensures.answer.2 c.in_ok-bind_label.ensures.answer.1 c.in_ok-emit_members.ensures.answer
    ∙ l.unpoisoned)) c.in_err-start_step.ensures.answer.0)

pub emit_loop-returns-in_err-put_branch-clause-only_memory : goal.emit_loop-returns-in_err-put_branch-clause-only_memory
emit_loop-returns-in_err-put_branch-clause-only_memory t c = λ after p.
    let inside = c.clear_post_insn.new.self in
    let same : inside ≡ without_map c.args.state.now = c.clear_post_insn.ensures in
    let q = subst (λ (e : Emission). TreeFits c.args.context.flags c.args.sink.now after e.nominal c.args.context.depth (loop_node c.args.cond (members_of c.args.context.flags e c.args.body.now) empty)) (sym same) p in
    let l = loop_passed c.args.context.flags c.args.sink.now after inside.nominal c.args.context.depth c.args.cond (members_of c.args.context.flags inside c.args.body.now) q in
    let b = body_turns c.args.sink.now c.get_label.new.self c.get_label-2.new.self c.bind_label.new.self c.emit_members.new.sink c.start_step.new.self
    c.in_ok-start.start.0 c.in_ok-end.end.0 (members_of c.args.context.flags inside c.args.body.now) c.in_ok-start.ensures.answer.2
    c.in_ok-end.ensures.answer.2 c.in_ok-bind_label.ensures.answer.1 c.in_ok-emit_members.ensures.answer c.in_ok-start_step.ensures.answer.1 in
    only_memory_again c.from_residual-in_err-put_branch.result _ c.from_residual-in_err-put_branch.ensures.1 (c.in_err-put_branch.ensures.only_memory (back_passed c.args.context.flags c.args.sink.now c.start_step.new.self c.in_ok-start.start.0 inside.nominal c.args.context.depth (members_of c.args.context.flags inside c.args.body.now) l b c.in_ok-start.ensures.answer.1))

pub emit_loop-returns-in_err-put_branch-clause-kept : goal.emit_loop-returns-in_err-put_branch-clause-kept
emit_loop-returns-in_err-put_branch-clause-kept t c =
    let begun = bound_kept c.args.sink.now c.get_label.new.self c.get_label-2.new.self c.bind_label.new.self c.in_ok-start.start.0 c.get_label.ensures.kept c.get_label-2.ensures.kept c.in_ok-start.ensures.answer.1 c.bind_label.ensures.kept in
    extends_on _ _ _ begun (extends_on _ _ _ c.emit_members.ensures.kept (extends_on _ _ _ c.start_step.ensures.kept c.put_branch.ensures.kept))

pub emit_loop-returns-in_err-start_step-clause-kept : goal.emit_loop-returns-in_err-start_step-clause-kept
emit_loop-returns-in_err-start_step-clause-kept t c =
    let begun = bound_kept c.args.sink.now c.get_label.new.self c.get_label-2.new.self c.bind_label.new.self c.in_ok-start.start.0 c.get_label.ensures.kept c.get_label-2.ensures.kept c.in_ok-start.ensures.answer.1 c.bind_label.ensures.kept in
    extends_on _ _ _ begun (extends_on _ _ _ c.emit_members.ensures.kept c.start_step.ensures.kept)

pub emit_loop-returns-in_err-emit_members-clause-kept : goal.emit_loop-returns-in_err-emit_members-clause-kept
emit_loop-returns-in_err-emit_members-clause-kept t c =
    let begun = bound_kept c.args.sink.now c.get_label.new.self c.get_label-2.new.self c.bind_label.new.self c.in_ok-start.start.0 c.get_label.ensures.kept c.get_label-2.ensures.kept c.in_ok-start.ensures.answer.1 c.bind_label.ensures.kept in
    extends_on _ _ _ begun c.emit_members.ensures.kept

pub emit_loop-returns-in_err-bind_label-clause-kept : goal.emit_loop-returns-in_err-bind_label-clause-kept
emit_loop-returns-in_err-bind_label-clause-kept t c = bound_kept c.args.sink.now c.get_label.new.self c.get_label-2.new.self c.bind_label.new.self c.in_ok-start.start.0 c.get_label.ensures.kept c.get_label-2.ensures.kept c.in_ok-start.ensures.answer.1 c.bind_label.ensures.kept

pub emit_loop-returns-clause-only_memory : goal.emit_loop-returns-clause-only_memory
emit_loop-returns-clause-only_memory t c = λ after p.
    let inside = c.clear_post_insn.new.self in
    let same : inside ≡ without_map c.args.state.now = c.clear_post_insn.ensures in
    let q = subst (λ (e : Emission). TreeFits c.args.context.flags c.args.sink.now after e.nominal c.args.context.depth (loop_node c.args.cond (members_of c.args.context.flags e c.args.body.now) empty)) (sym same) p in
    let l = loop_passed c.args.context.flags c.args.sink.now after inside.nominal c.args.context.depth c.args.cond (members_of c.args.context.flags inside c.args.body.now) q in
    let b = body_turns c.args.sink.now c.get_label.new.self c.get_label-2.new.self c.bind_label.new.self c.emit_members.new.sink c.start_step.new.self
    c.in_ok-start.start.0 c.in_ok-end.end.0 (members_of c.args.context.flags inside c.args.body.now) c.in_ok-start.ensures.answer.2
    c.in_ok-end.ensures.answer.2 c.in_ok-bind_label.ensures.answer.1 c.in_ok-emit_members.ensures.answer c.in_ok-start_step.ensures.answer.1 in
    let end = end_below c.args.sink.now c.get_label.new.self c.start_step.new.self c.put_branch.new.sink c.bits-mask.result c.in_ok-start.start.0 c.in_ok-end.end.0 c.args.context.depth (members_of c.args.context.flags inside c.args.body.now) c.in_ok-start.ensures.answer.2 c.in_ok-end.ensures.answer.1 b c.in_ok-put_branch.ensures.answer in
    only_memory_of_call _ _ _ c.bind_label-2.result c.bind_label-2.ensures.answer (label_none c.put_branch.new.sink c.in_ok-end.end.0 (ap (λ x. x.is_poisoned) c.in_ok-put_branch.ensures.answer ∙ b.unpoisoned ∙ l.unpoisoned) end)

pub emit_loop-returns-clause-cause : goal.emit_loop-returns-clause-cause
emit_loop-returns-clause-cause t c =
    let inside = c.clear_post_insn.new.self in
    let s = c.args.sink.now in
    let opens = sym c.loop_cause.ensures.cause ∙ c.in_default.is in
    let none = loop_none c.args.context.flags s c.get_label.new.self c.get_label-2.new.self c.bind_label.new.self c.in_ok-start.start.0 inside.nominal c.args.context.depth c.args.cond (members_of c.args.context.flags inside c.args.body.now) c.in_ok-start.ensures.answer.2 c.in_ok-end.ensures.answer.2 c.in_ok-bind_label.ensures.answer.1 opens c.in_ok-emit_members.ensures.cause.0 in
    on_both _ c.bind_label-2.result c.bind_label-2.ensures.answer (λ _. subst (λ (e : Emission). tree_cause c.args.context.flags (declared_in s) (length s.labels) e.nominal c.args.context.depth (loop_node c.args.cond (members_of c.args.context.flags e c.args.body.now) empty) ≡ None) c.clear_post_insn.ensures none)

pub emit_loop-returns-in_err-emit_members-clause-only_memory : goal.emit_loop-returns-in_err-emit_members-clause-only_memory
emit_loop-returns-in_err-emit_members-clause-only_memory t c = λ after p.
    let inside = c.clear_post_insn.new.self in
    let same : inside ≡ without_map c.args.state.now = c.clear_post_insn.ensures in
    let q = subst (λ (e : Emission). TreeFits c.args.context.flags c.args.sink.now after e.nominal c.args.context.depth (loop_node c.args.cond (members_of c.args.context.flags e c.args.body.now) empty)) (sym same) p in
    let s = c.args.sink.now in
    let l = loop_passed c.args.context.flags s after inside.nominal c.args.context.depth c.args.cond (members_of c.args.context.flags inside c.args.body.now) q in
    let a = draw_turns s c.get_label.new.self c.in_ok-start.ensures.answer.2 in
    let b = draw_turns c.get_label.new.self c.get_label-2.new.self c.in_ok-end.ensures.answer.2 in
    let o = bind_turns c.get_label-2.new.self c.bind_label.new.self c.in_ok-start.start.0 c.in_ok-bind_label.ensures.answer.1 in
    let turns = turns_on _ _ _ _ _ _ _ (turns_on _ _ _ _ _ _ _ a b) o in
    let below : c.in_ok-end.end.0 < length c.bind_label.new.self.labels = omega (arith, c.in_ok-end.ensures.answer.1, b.labels, o.labels) in
    only_memory_again c.from_residual-in_err-emit_members.result _ c.from_residual-in_err-emit_members.ensures.1 (c.in_err-emit_members.ensures.only_memory (inner_passed c.args.context.flags s c.bind_label.new.self inside.nominal c.args.context.depth c.in_ok-end.end.0 0 (members_of c.args.context.flags inside c.args.body.now) l turns below))
