use Rattle.std.proofs.Common.{refl, ap}
use Rattle.s390x_operations.specs.State.{Registers}
use Rattle.s390x_machine.specs.State.{memory_of}
use Rattle.s390x_machine.proofs.step.execute.Goals as goal

pub returns-in-BranchAndSave : goal.returns-in-BranchAndSave
returns-in-BranchAndSave g c =
    rw c.in-BranchAndSave.is ((ap (λ (r : Registers). record { core = record { registers = r; memory = memory_of (g.M.Memory.held c.args.memory.now) (g.M.Memory.byte c.args.memory.now) }; address = c.in-BranchAndSave.target }) c.put.ensures.registers, refl), tt)
