use Rattle.std.proofs.Common.{◌+◌, ◌∙◌, sym, ap, arith, drop}
use Rattle.s390x_emit_int.specs.Stack.{outgoing_behind_all}
use Rattle.s390x_emit_int.proofs.Outgoing.{outgoing_loop, outgoing_more, outgoing_end}
use Rattle.s390x_emit_int.proofs.stack.+outgoing.Goals as goal

pub outgoing_after-returns-in-Loop : goal.outgoing_after-returns-in-Loop
outgoing_after-returns-in-Loop t c = c.outgoing_behind.ensures ∙ sym (outgoing_loop c.args.outgoing c.args.inst.now c.in-Loop.cond c.in-Loop.body c.deref.result.now c.in-Loop.is c.deref.ensures.value)

pub outgoing_behind-loop-inst-preserved : goal.outgoing_behind-loop-inst-preserved
outgoing_behind-loop-inst-preserved t c =
    let k = c.loop-inst.inst-index in
    let is = c.args.insts.now in
    ap (λ n. outgoing_behind_all n (drop (k + 1) is)) c.outgoing_after-behind.ensures ∙ outgoing_more c.loop-inst.behind is k c.inst-item.result (omega arith) c.inst-item.is ∙ c.loop-inst.invariant

pub outgoing_behind-returns : goal.outgoing_behind-returns
outgoing_behind-returns t c = sym (outgoing_end c.loop-inst.behind c.args.insts.now c.loop-inst.inst-index (omega arith)) ∙ c.loop-inst.invariant
