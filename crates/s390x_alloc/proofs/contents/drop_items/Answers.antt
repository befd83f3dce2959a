use Rattle.std.proofs.Common.{refl, arith}
use Rattle.s390x_alloc.proofs.Following.{items_done, items_turn}
use Rattle.s390x_alloc.proofs.contents.drop_items.Goals as goal

pub loop-item-init : goal.loop-item-init
loop-item-init c = λ list is. record { now = list; map = is; goes = refl }

pub loop-item-preserved : goal.loop-item-preserved
loop-item-preserved c = λ list is. items_turn c.loop-item.held c.drop_item.new.held c.args.items.now c.loop-item.item-index c.item-item.result _ (omega arith) c.item-item.is c.drop_item.ensures (c.loop-item.invariant list is)

pub returns : goal.returns
returns c = λ list is. items_done c.loop-item.held c.args.items.now c.loop-item.item-index _ (omega arith) (c.loop-item.invariant list is)
