use Rattle.std.proofs.Common.{arith}
use Rattle.s390x_inst.proofs.Portions.{same_loops, copied_other, member_turn}
use Rattle.s390x_inst.proofs.copy.+copies.Goals as goal

pub copy_inst-returns-in_ok-copy_members-in-Loop : goal.copy_inst-returns-in_ok-copy_members-in-Loop
copy_inst-returns-in_ok-copy_members-in-Loop t c =
    same_loops c.args.inst.now c.in-Loop.cond c.in-Loop.body c.in_ok-copy_members-in-Loop.field-0 c.deref.result.now c.in-Loop.is c.deref.ensures.value c.in_ok-copy_members-in-Loop.ensures

pub copy_inst-returns-in_default : goal.copy_inst-returns-in_default
copy_inst-returns-in_default t c = copied_other c.args.inst.now c.copy_head.result c.in_default.not-Loop c.copy_head.ensures

pub copy_members-loop-inst-preserved : goal.copy_members-loop-inst-preserved
copy_members-loop-inst-preserved t c =
    member_turn c.args.insts.now c.loop-inst.body.items c.push.new.self.items c.loop-inst.inst-index c.inst-item.result c.in_ok-copy_inst.field-0 (omega arith) c.inst-item.is c.in_ok-copy_inst.ensures c.in_ok-push.ensures.items c.loop-inst.invariant
