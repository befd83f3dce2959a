use Rattle.std.proofs.Common.{arith, Ok}
use Rattle.s390x_operands.proofs.Members.{reports_loop, member_turn, member_stop, members_done}
use Rattle.s390x_operands.proofs.operands.+members.Goals as goal

pub report_inst-returns-in-Loop : goal.report_inst-returns-in-Loop
report_inst-returns-in-Loop g t c =
    reports_loop c.args.inst.now c.in-Loop.cond c.in-Loop.body c.deref.result.now c.args.denied _ _ _ _ c.report_members.result c.in-Loop.is c.deref.ensures.value c.report_members.ensures

pub report_members-loop-inst-preserved : goal.report_members-loop-inst-preserved
report_members-loop-inst-preserved g t c =
    record { rest = λ n d r h. c.loop-inst.invariant.rest n d r (member_turn c.args.insts.now c.loop-inst.inst-index c.inst-item.result _ _ _ _ _ _ _ (omega arith) c.inst-item.is c.in_ok-report_inst.ensures h) }

pub report_members-returns-in_err-report_inst : goal.report_members-returns-in_err-report_inst
report_members-returns-in_err-report_inst g t c =
    c.loop-inst.invariant.rest _ _ c.from_residual.result (member_stop c.args.insts.now c.loop-inst.inst-index c.inst-item.result _ _ _ _ _ c.from_residual.result (omega arith) c.inst-item.is c.from_residual.ensures.1 c.in_err-report_inst.ensures)

pub report_members-returns : goal.report_members-returns
report_members-returns g t c = c.loop-inst.invariant.rest _ _ (Ok tt) (members_done c.args.insts.now c.loop-inst.inst-index _ _ (omega arith))
