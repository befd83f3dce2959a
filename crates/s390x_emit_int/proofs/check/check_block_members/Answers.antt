use Rattle.std.proofs.Common.{◌∙◌, ◌+◌, sym, arith, drop}
use Rattle.std.proofs.lemmas.Result.{err_from_is_err_and}
use Rattle.s390x_typed_steps.specs.Causes.{declared_in}
use Rattle.s390x_typed_steps.proofs.Baseline.{for_block_stops}
use Rattle.s390x_emit_int.specs.Members.{block_members_of}
use Rattle.s390x_emit_int.proofs.Checking.{GoesOn, marked_cause, marked_goes_on, or_cause_of}
use Rattle.s390x_emit_int.proofs.Resolving.{no_stack_cause}
use Rattle.s390x_emit_int.proofs.check.check_block_members.Goals as goal

pub loop-inst-preserved : goal.loop-inst-preserved
loop-inst-preserved c =
    let state = c.loop-inst.state in
    let marked = c.mark_safepoint.new.state in
    let next = c.advance.new.state in
    let k = c.loop-inst.inst-index in
    let is = c.args.insts.now in
    let g : GoesOn c.args.flags (declared_in c.args.sink.now) 0 c.loop-inst.sum c.in_ok-sum.sum state.nominal next.nominal (block_members_of c.args.flags next (drop (k + 1) is)) (block_members_of c.args.flags state (drop k is)) = marked_goes_on
    state marked next c.args.flags (declared_in c.args.sink.now) 0 c.loop-inst.sum _ is k c.inst-item.result (omega arith) c.inst-item.is
    c.mark_safepoint.ensures c.in_ok-advance.ensures c.in_ok-sum.ensures.0 c.in_ok-sum.ensures.1 in
    record {
      cause = g.cause ∙ c.loop-inst.invariant.cause;
      labels = g.labels ∙ c.loop-inst.invariant.labels;
      bytes = g.bytes ∙ c.loop-inst.invariant.bytes;
      nominal = g.nominal ∙ c.loop-inst.invariant.nominal;
      counted = c.in_ok-sum.ensures.1.counted;
    }

pub returns-in_err-sum : goal.returns-in_err-sum
returns-in_err-sum c =
    let p = err_from_is_err_and c.from_residual.result c.from_residual.ensures.1 in
    let state = c.loop-inst.state in
    let D = declared_in c.args.sink.now in
    let i = c.inst-item.result in
    rw (p.1, p.2) (or_cause_of c.in_err-sum.ensures (λ h. sym c.loop-inst.invariant.cause ∙ for_block_stops c.args.flags state D 0 c.loop-inst.sum.labels state.nominal c.in_err-sum.field-0.0 c.args.insts.now c.loop-inst.inst-index i (omega arith) c.inst-item.is (sym (marked_cause c.args.flags D c.loop-inst.sum.labels 0 state c.mark_safepoint.new.state i c.mark_safepoint.ensures) ∙ h)))

-- a member without a cause lets the sizes go on
pub returns-in_err-advance : goal.returns-in_err-advance
returns-in_err-advance c =
    let marked = c.mark_safepoint.new.state in
    let none = no_stack_cause c.args.flags marked (declared_in c.args.sink.now) c.loop-inst.sum.labels marked.nominal 0 c.inst-item.result c.in_ok-sum.ensures.0 in
    let some = c.in_err-advance.ensures.0 0 in
    absurd (cc)
