use Rattle.std.proofs.Common.{◌≡◌}
use Rattle.s390x_operations.specs.Effects.{set_multiple}
use Rattle.s390x_machine.specs.State.{registers_of}
use Rattle.s390x_machine.proofs.perform.put_multiple.Given as goal

abbrev pub invariant-loop-i : goal.invariant-loop-i
invariant-loop-i g l = record { registers : registers_of l.machine ≡ set_multiple (registers_of l.fn.machine) (g.M.Memory.byte l.memory) l.first l.address l.i; place : l.machine.place ≡ l.fn.machine.place }
