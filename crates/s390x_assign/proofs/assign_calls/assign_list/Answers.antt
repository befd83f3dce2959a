use Rattle.std.proofs.Common.{arith}
use Rattle.s390x_assign.proofs.Counting.{given_turn, left_turn, given_done, left_done}
use Rattle.s390x_assign.proofs.assign_calls.assign_list.Goals as goal

pub loop-item-preserved : goal.loop-item-preserved
loop-item-preserved g c = record {
  value = given_turn g.T.TakesRegisters.given c.args.items.now c.loop-item.assigned.items c.push.new.self.items c.loop-item.item-index c.item-item.result c.with_registers.result c.loop-item.registers.left.now c.with_registers.new.registers.left.now _
      (omega arith) c.item-item.is c.with_registers.ensures.value c.with_registers.ensures.left c.in_ok-push.ensures.items c.loop-item.invariant.value;
  left = left_turn g.T.TakesRegisters.given c.args.items.now c.loop-item.item-index c.item-item.result c.loop-item.registers.left.now c.with_registers.new.registers.left.now _ (omega arith) c.item-item.is c.with_registers.ensures.left c.loop-item.invariant.left;
}

pub returns-clause-value : goal.returns-clause-value
returns-clause-value g c = given_done g.T.TakesRegisters.given c.args.items.now c.loop-item.assigned.items c.loop-item.item-index c.loop-item.registers.left.now _ (omega arith) c.loop-item.invariant.value

pub returns-clause-left : goal.returns-clause-left
returns-clause-left g c = left_done g.T.TakesRegisters.given c.args.items.now c.loop-item.item-index c.loop-item.registers.left.now _ (omega arith) c.loop-item.invariant.left
