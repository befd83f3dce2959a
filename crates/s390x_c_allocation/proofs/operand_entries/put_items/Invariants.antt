use Rattle.std.proofs.Common.{◌≡◌, ◌++◌, drop}
use Rattle.s390x_c_allocation.specs.OperandEntries.{items_entries}
use Rattle.s390x_c_allocation.proofs.operand_entries.put_items.Given as goal

-- what is written, with the items that are left
abbrev pub invariant-loop-item : goal.invariant-loop-item
invariant-loop-item l =
    l.out.items ++ items_entries l.spot (drop l.item-index l.items) ≡ l.initial.out.items ++ items_entries l.spot l.items
