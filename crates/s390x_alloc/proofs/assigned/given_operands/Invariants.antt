use Rattle.std.proofs.Common.{◌≡◌, ◌++◌, drop, length}
use Rattle.s390x_alloc.specs.Assigned.{given_behind, given_operands}
use Rattle.s390x_alloc.proofs.assigned.given_operands.Given as goal

abbrev pub invariant-loop-item : goal.invariant-loop-item
invariant-loop-item l = l.operands.items ++ given_behind (length l.operands.items) (drop l.item-index l.items) l.regs ≡ given_operands l.items l.regs
