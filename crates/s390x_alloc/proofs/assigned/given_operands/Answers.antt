use Rattle.std.proofs.Common.{arith}
use Rattle.s390x_alloc.proofs.Turning.{given_turn}
use Rattle.s390x_alloc.proofs.assigned.given_operands.Goals as goal

pub loop-item-preserved : goal.loop-item-preserved
loop-item-preserved c =
    given_turn c.args.items.now c.loop-item.item-index c.item-item.result c.args.regs.now c.loop-item.operands.items c.put_operand.new.operands.items _ (omega arith) c.item-item.is c.in_ok-put_operand.ensures c.loop-item.invariant
