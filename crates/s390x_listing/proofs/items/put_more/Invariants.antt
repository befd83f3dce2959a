use Rattle.std.proofs.Common.{◌≡◌, ◌++◌, drop, string_bytes}
use Rattle.s390x_listing.specs.Operands.{more_items}
use Rattle.s390x_listing.proofs.items.put_more.Given as goal

-- what is written, with the items that are left
abbrev pub invariant-loop-item : goal.invariant-loop-item
invariant-loop-item l =
    string_bytes l.out ++ more_items (drop l.item-index l.items) ≡ string_bytes l.initial.out ++ more_items l.items
