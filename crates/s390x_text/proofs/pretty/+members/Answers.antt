use Rattle.std.proofs.Common.{◌≡◌, string_bytes, sym, subst, arith}
use Rattle.std.specs.Prelude.{IfOk}
use Rattle.s390x_text_rows.specs.Texts.{RefusedBy, Prints}
use Rattle.s390x_text.specs.Instructions.{insts_text}
use Rattle.s390x_text.proofs.Loops.{bytes_go_on, cause_goes_on, state_goes_on, stops, again, whole_loop, after_loop, plain}
use Rattle.s390x_text.proofs.pretty.+members.Goals as goal

pub put_members-loop-inst-preserved : goal.put_members-loop-inst-preserved
put_members-loop-inst-preserved t c =
    record {
      bytes = bytes_go_on c.args.context.flags c.args.context.depth c.loop-inst.state c.put_member.new.state c.inst-item.result c.args.insts.now c.loop-inst.inst-index _ (string_bytes c.loop-inst.out) _ (omega arith) c.inst-item.is c.in_ok-put_member.ensures.answer.1 c.in_ok-put_member.ensures.after c.loop-inst.invariant.bytes;
      cause = cause_goes_on c.args.context.flags c.args.context.depth c.loop-inst.state c.put_member.new.state c.inst-item.result c.args.insts.now c.loop-inst.inst-index _ (omega arith) c.inst-item.is c.in_ok-put_member.ensures.answer.0 c.in_ok-put_member.ensures.after c.loop-inst.invariant.cause;
      behind = state_goes_on c.loop-inst.state c.put_member.new.state _ c.inst-item.result c.args.insts.now c.loop-inst.inst-index (omega arith) c.inst-item.is c.in_ok-put_member.ensures.after c.loop-inst.invariant.behind;
    }

pub put_members-returns-in_err-put_member-clause-answer : goal.put_members-returns-in_err-put_member-clause-answer
put_members-returns-in_err-put_member-clause-answer t c =
    again _ (RefusedBy (insts_text c.args.context.flags c.args.context.depth c.args.state.now c.args.insts.now).cause) c.from_residual.result _ c.from_residual.ensures.1
    (stops c.args.context.flags c.args.context.depth c.loop-inst.state c.inst-item.result c.args.insts.now c.loop-inst.inst-index _ _ (omega arith) c.inst-item.is c.in_err-put_member.ensures.answer c.loop-inst.invariant.cause)

pub put_inst-returns-in-Loop-clause-answer : goal.put_inst-returns-in-Loop-clause-answer
put_inst-returns-in-Loop-clause-answer t c =
    let g = whole_loop c.args.context.flags c.args.context.depth c.args.state.now c.args.inst.now c.in-Loop.cond c.in-Loop.body c.deref.result.now c.in-Loop.is c.deref.ensures.value in
    subst (λ x. Prints c.put_loop.result (string_bytes c.args.out.now) (string_bytes c.put_loop.new.out) x) (sym g) c.put_loop.ensures.answer

pub put_inst-returns-in-Loop-clause-after : goal.put_inst-returns-in-Loop-clause-after
put_inst-returns-in-Loop-clause-after t c =
    let g = after_loop c.args.state.now c.args.inst.now c.in-Loop.cond c.in-Loop.body c.deref.result.now c.in-Loop.is c.deref.ensures.value in
    subst (λ x. IfOk c.put_loop.result (λ _. c.put_loop.new.state ≡ x)) (sym g) c.put_loop.ensures.after

pub put_inst-returns-in_default-clause-answer : goal.put_inst-returns-in_default-clause-answer
put_inst-returns-in_default-clause-answer t c =
    let g = plain c.args.context.flags c.args.context.depth c.args.state.now c.args.inst.now c.in_default.not-Loop in
    subst (λ x. Prints c.put_one.result (string_bytes c.args.out.now) (string_bytes c.put_one.new.out) x) (sym g.0) c.put_one.ensures.answer

pub put_inst-returns-in_default-clause-after : goal.put_inst-returns-in_default-clause-after
put_inst-returns-in_default-clause-after t c =
    let g = plain c.args.context.flags c.args.context.depth c.args.state.now c.args.inst.now c.in_default.not-Loop in
    subst (λ x. IfOk c.put_one.result (λ _. c.put_one.new.state ≡ x)) (sym g.1) c.put_one.ensures.after
