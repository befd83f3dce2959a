use Rattle.std.proofs.Common.{◌≡◌, ◌+◌, ◌≤◌, drop}
use Rattle.s390x_assign.specs.Assignments.{operand_count}
use Rattle.s390x_assign.proofs.assigning.count_operands.Given as goal

abbrev pub invariant-loop-item : goal.invariant-loop-item
invariant-loop-item l = record {
  counted : l.count + operand_count (drop l.item-index l.items) ≡ operand_count l.items;
  below : l.count ≤ l.item-index;
}
