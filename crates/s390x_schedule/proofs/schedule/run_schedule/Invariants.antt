use Rattle.std.specs.Prelude.{◌≡◌, length, take}
use Rattle.s390x_machine.specs.State.{memory_of}
use Rattle.s390x_schedule.specs.Schedule.{AllGo, world_of}
use Rattle.s390x_schedule.proofs.schedule.run_schedule.Given as goal

-- the steps before this position went
abbrev pub invariant-loop-at : goal.invariant-loop-at
invariant-loop-at g l = record {
  count : length l.machines ≡ length l.initial.machines;
  went : AllGo (world_of l.initial.machines (memory_of (g.M.Memory.held l.initial.memory) (g.M.Memory.byte l.initial.memory))) (take l.at l.schedule) (world_of l.machines (memory_of (g.M.Memory.held l.memory) (g.M.Memory.byte l.memory)));
}
