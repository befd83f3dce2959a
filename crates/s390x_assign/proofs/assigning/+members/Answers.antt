use Rattle.std.proofs.Common.{arith}
use Rattle.s390x_inst.specs.Portions.{members_portions}
use Rattle.s390x_assign.specs.Assignments.{assigned_portions}
use Rattle.s390x_assign.proofs.Members.{given_loop, given_other, member_given, member_left, members_given}
use Rattle.s390x_assign.proofs.assigning.+members.Goals as goal

pub assign_inst-returns-in_ok-body-in-Loop : goal.assign_inst-returns-in_ok-body-in-Loop
assign_inst-returns-in_ok-body-in-Loop t c =
    given_loop c.args.inst.now c.in-Loop.cond c.in-Loop.body c.in_ok-body-in-Loop.body c.deref.result.now c.args.registers.now.left.now c.assign_members.new.registers.left.now c.in-Loop.is c.deref.ensures.value c.in_ok-body-in-Loop.ensures

pub assign_inst-returns-in_default : goal.assign_inst-returns-in_default
assign_inst-returns-in_default t c =
    given_other c.args.inst.now c.assign_operator.result c.args.registers.now.left.now c.assign_operator.new.registers.left.now c.in_default.not-Loop c.assign_operator.ensures

pub assign_members-loop-inst-preserved : goal.assign_members-loop-inst-preserved
assign_members-loop-inst-preserved t c = record {
  value = member_given c.args.insts.now c.loop-inst.body.items c.push.new.self.items c.loop-inst.inst-index c.inst-item.result c.in_ok-assign_inst.field-0 c.loop-inst.registers.left.now c.assign_inst.new.registers.left.now _ (omega arith) c.inst-item.is c.in_ok-assign_inst.ensures c.in_ok-push.ensures.items c.loop-inst.invariant.value;
  left = member_left c.args.insts.now c.loop-inst.inst-index c.inst-item.result c.in_ok-assign_inst.field-0 c.loop-inst.registers.left.now c.assign_inst.new.registers.left.now _ (omega arith) c.inst-item.is c.in_ok-assign_inst.ensures c.loop-inst.invariant.left;
}

pub assign_members-returns : goal.assign_members-returns
assign_members-returns t c =
    members_given c.args.insts.now c.loop-inst.body.items c.loop-inst.inst-index c.loop-inst.registers.left.now (assigned_portions (members_portions c.args.insts.now) c.args.registers.now.left.now) (omega arith) c.loop-inst.invariant.value c.loop-inst.invariant.left
