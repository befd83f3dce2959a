use Rattle.std.proofs.Common.{◌≡◌, ◌++◌, drop}
use Rattle.s390x_assign.specs.Assignments.{each_at}
use Rattle.s390x_assign.proofs.assign_calls.assign_list.Given as goal

abbrev pub invariant-loop-item : goal.invariant-loop-item
invariant-loop-item g l = record {
  value : l.assigned.items ++ (each_at g.T.TakesRegisters.given (drop l.item-index l.items) l.registers.left.now).0 ≡ (each_at g.T.TakesRegisters.given l.items l.initial.registers.left.now).0;
  left : (each_at g.T.TakesRegisters.given (drop l.item-index l.items) l.registers.left.now).1 ≡ (each_at g.T.TakesRegisters.given l.items l.initial.registers.left.now).1;
}
