use Rattle.std.proofs.Common.{List, drop}
use Rattle.s390x_alloc.specs.Contents.{without_items}
use Rattle.s390x_alloc.specs.Locations.{IsMapOf}
use Rattle.s390x_alloc.specs.declared.plan.EntryPair.{EntryPair}
use Rattle.s390x_alloc.proofs.Following.{Reaches}
use Rattle.s390x_alloc.proofs.contents.drop_items.Given as goal

abbrev pub invariant-loop-item : goal.invariant-loop-item
invariant-loop-item l = (list : List EntryPair) → IsMapOf l.initial.held list → Reaches l.held (without_items (drop l.item-index l.items)) (without_items l.items list)
