use Rattle.std.proofs.Common.{◌≡◌, None, length, arith, ap, sym, ◌∙◌, subst, drop, ◌+◌, ◌<◌}
use Rattle.s390x_buffer.proofs.Extending.{extends_on}
use Rattle.s390x_inst.specs.Emission.{Emission}
use Rattle.s390x_typed_steps.specs.Calls.{safepoint}
use Rattle.s390x_typed_steps.specs.Causes.{declared_in, tree_cause}
use Rattle.s390x_typed_steps.specs.Ranges.{AllInRange}
use Rattle.s390x_typed_steps.specs.Stack.{state_after}
use Rattle.s390x_emit_int.specs.Emission.{own_fragments, fragments}
use Rattle.s390x_emit_int.specs.Members.{member_of, block_members_of}
use Rattle.s390x_emit_int.specs.Fragments.{apply_all}
use Rattle.s390x_emit_int.specs.Room.{TreeFits}
use Rattle.s390x_emit_int.proofs.Checking.{marked_cause}
use Rattle.s390x_emit_int.proofs.Emitting.{more_cause_in_block, nominal_in_block}
use Rattle.s390x_emit_int.proofs.OnlyMemory.{only_memory_again}
use Rattle.s390x_emit_int.proofs.Passing.{others_in_block, marked_passed}
use Rattle.s390x_emit_int.proofs.Resolving.{no_stack_cause}
use Rattle.s390x_emit_int.proofs.Trees.{more_in_block, ranges_in_block, more_room, safepoint_after}
use Rattle.s390x_emit_int.proofs.function.emit_block_members.Goals as goal

pub loop-inst-preserved : goal.loop-inst-preserved
loop-inst-preserved c =
    let flags = c.args.flags in
    let is = c.args.insts.now in
    let k = c.loop-inst.inst-index in
    let here = c.loop-inst.state in
    let i = c.inst-item.result in
    let marked = c.mark_safepoint.new.state in
    let same : marked ≡ safepoint here i = c.mark_safepoint.ensures in
    let next = c.advance.new.state in
    let on : next ≡ state_after here i = c.in_ok-advance.ensures ∙ ap (λ (e : Emission). state_after e i) same ∙ safepoint_after here i in
    let s = c.loop-inst.sink in
    let s1 = c.start_step.new.self in
    let s2 = c.emit_inst.new.sink in
    let lt : k < length is = omega arith in
    let e1 = c.in_ok-start_step.ensures.answer.1 in
    let e2 : s2 ≡ apply_all s1 (own_fragments (length s1.labels) 0 (member_of flags (safepoint here i) i)) = c.in_ok-emit_inst.ensures.answer ∙ ap (λ (e : Emission). apply_all s1 (own_fragments (length s1.labels) 0 (member_of flags e i))) same in
    let none : tree_cause flags (declared_in s1) (length s1.labels) here.nominal 0 (member_of flags (safepoint here i) i) ≡ None = sym (marked_cause flags (declared_in s1) (length s1.labels) 0 here marked i same) ∙ c.in_ok-emit_inst.ensures.cause in
    record {
      kept = extends_on _ _ _ c.loop-inst.invariant.kept (extends_on _ _ _ c.start_step.ensures.kept c.emit_inst.ensures.kept);
      room = more_room flags (safepoint here i) i s s1 s2 0 c.loop-inst.invariant.room e1 e2;
      rest = ap (λ e. apply_all s2 (fragments (length s2.labels) 0 (block_members_of flags e (drop (k + 1) is)))) on ∙ more_in_block flags here is k i s s1 s2 _ 0 lt c.inst-item.is e1 e2 c.loop-inst.invariant.rest;
      cause = more_cause_in_block flags here next s s1 s2 0 0 is k i lt c.inst-item.is e1 e2 on none ∙ c.loop-inst.invariant.cause;
      nominal = nominal_in_block flags here next is k i lt c.inst-item.is on ∙ c.loop-inst.invariant.nominal;
      passed = λ p. subst (λ (e : Emission). TreeFits flags s2 0 e.nominal 0 (block_members_of flags e (drop (k + 1) is))) (sym on) (others_in_block here flags s s1 s2 0 0 is k i lt c.inst-item.is e1 e2 (c.loop-inst.invariant.passed p));
      ranges = λ f. c.loop-inst.invariant.ranges (ranges_in_block flags here is k i lt c.inst-item.is (subst (λ (e : Emission). AllInRange (member_of flags e i)) same c.in_ok-emit_inst.ensures.ranges) (subst (λ e. AllInRange (block_members_of flags e (drop (k + 1) is))) on f));
    }

pub returns-in_err-advance-clause-kept : goal.returns-in_err-advance-clause-kept
returns-in_err-advance-clause-kept c = extends_on _ _ _ c.loop-inst.invariant.kept (extends_on _ _ _ c.start_step.ensures.kept c.emit_inst.ensures.kept)

pub returns-in_err-advance-clause-only_memory : goal.returns-in_err-advance-clause-only_memory
returns-in_err-advance-clause-only_memory c = λ p.
    let s1 = c.start_step.new.self in
    let marked = c.mark_safepoint.new.state in
    let none = no_stack_cause c.args.flags marked (declared_in s1) (length s1.labels) marked.nominal 0 c.inst-item.result c.in_ok-emit_inst.ensures.cause in
    let some = c.in_err-advance.ensures.0 0 in
    absurd (cc)

pub returns-in_err-emit_inst-clause-kept : goal.returns-in_err-emit_inst-clause-kept
returns-in_err-emit_inst-clause-kept c = extends_on _ _ _ c.loop-inst.invariant.kept (extends_on _ _ _ c.start_step.ensures.kept c.emit_inst.ensures.kept)

pub returns-in_err-emit_inst-clause-only_memory : goal.returns-in_err-emit_inst-clause-only_memory
returns-in_err-emit_inst-clause-only_memory c = λ p.
    only_memory_again c.from_residual-in_err-emit_inst.result _ c.from_residual-in_err-emit_inst.ensures.1
    (c.in_err-emit_inst.ensures.only_memory (marked_passed c.loop-inst.state c.mark_safepoint.new.state c.args.flags c.loop-inst.sink c.start_step.new.self 0 0 c.args.insts.now c.loop-inst.inst-index c.inst-item.result (omega arith) c.inst-item.is c.mark_safepoint.ensures c.in_ok-start_step.ensures.answer.1 (c.loop-inst.invariant.passed p)))
