use Rattle.std.proofs.Common.{refl, arith}
use Rattle.s390x_alloc.specs.Contents.{without_items}
use Rattle.s390x_alloc.proofs.Following.{operands_done, operands_turn}
use Rattle.s390x_alloc.proofs.contents.take_step.Goals as goal

pub loop-operand-init : goal.loop-operand-init
loop-operand-init c = λ list is. record { now = without_items c.args.items.now list; map = c.drop_items.ensures list is; goes = refl }

pub loop-operand-preserved : goal.loop-operand-preserved
loop-operand-preserved c = λ list is. operands_turn c.loop-operand.held c.put_operand.new.held c.args.operands.now c.loop-operand.operand-index c.operand-item.result _ (omega arith) c.operand-item.is c.in_ok-put_operand.ensures (c.loop-operand.invariant list is)

pub returns : goal.returns
returns c = λ list is. operands_done c.loop-operand.held c.args.operands.now c.loop-operand.operand-index _ (omega arith) (c.loop-operand.invariant list is)
