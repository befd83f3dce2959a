use Rattle.std.proofs.Common.{arith}
use Rattle.s390x_assign.proofs.Counting.{count_turn, count_done}
use Rattle.s390x_assign.proofs.assigning.count_operands.Goals as goal

pub loop-item-preserved : goal.loop-item-preserved
loop-item-preserved c = record {
  counted = count_turn c.args.items.now c.loop-item.item-index c.item-item.result c.loop-item.count c.operands_in-count.result _ (omega arith) c.item-item.is c.operands_in-count.ensures.value c.loop-item.invariant.counted;
  below = omega arith;
}

pub returns : goal.returns
returns c = count_done c.args.items.now c.loop-item.item-index c.loop-item.count _ (omega arith) c.loop-item.invariant.counted
