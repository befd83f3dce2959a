use Rattle.std.proofs.Common.{◌≡◌, ◌≤◌, count_by, take}
use Rattle.s390x_alloc.specs.Assigned.{is_operand}
use Rattle.s390x_alloc.proofs.assigned.count_operands.Given as goal

abbrev pub invariant-loop-item : goal.invariant-loop-item
invariant-loop-item l = record {
  counted : l.count ≡ count_by is_operand (take l.item-index l.items);
  within : l.count ≤ l.item-index;
}
