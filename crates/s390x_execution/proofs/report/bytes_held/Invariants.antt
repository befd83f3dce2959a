use Rattle.std.proofs.Common.{◌≡◌, ◌++◌, ◌-◌}
use Rattle.s390x_operations.specs.State.{bytes_at, bytes_from}
use Rattle.s390x_execution.proofs.report.bytes_held.Given as goal

-- the bytes that were read, with those that are left
abbrev pub invariant-loop-i : goal.invariant-loop-i
invariant-loop-i g l =
    l.bytes.items ++ bytes_from (g.M.Memory.byte l.memory) l.address l.i (l.count - l.i) ≡ bytes_at (g.M.Memory.byte l.memory) l.address l.count
