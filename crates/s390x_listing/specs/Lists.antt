-- The items that a list of two parts has.
use Rattle.std.specs.Prelude.{List, ◌++◌, map}
use Rattle.s390x_operands.specs.declared.constraint.Reported.{Reported}
use Rattle.s390x_operands.specs.declared.constraint.Reported.TheVariants.{Fixed}
use Rattle.s390x_listing.specs.declared.item_list.ItemList.{ItemList}

-- the real registers that came first, and the others behind them
abbrev pub items_in : ItemList → List Reported
items_in l = map Fixed l.fixed.items ++ l.others.items.items
