use Rattle.s390x_machine.specs.State.{state_of}
use Rattle.s390x_execution.specs.Execution.{Walks}
use Rattle.s390x_execution.proofs.execution.execute.Given as goal

-- so many steps went
abbrev pub invariant-loop-went : goal.invariant-loop-went
invariant-loop-went g l =
    Walks l.went (state_of l.initial.machine (g.M.Memory.held l.initial.memory) (g.M.Memory.byte l.initial.memory)) (state_of l.machine (g.M.Memory.held l.memory) (g.M.Memory.byte l.memory))
