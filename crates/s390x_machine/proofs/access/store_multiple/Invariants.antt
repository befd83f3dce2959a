use Rattle.std.proofs.Common.{◌≡◌, ◌*◌}
use Rattle.s390x_operations.specs.State.{bytes_to, write_get}
use Rattle.s390x_operations.specs.Effects.{joined_doublewords}
use Rattle.s390x_machine.proofs.access.store_multiple.Given as goal

abbrev pub invariant-loop-i : goal.invariant-loop-i
invariant-loop-i g l = record { same : g.M.Memory.held l.memory ≡ g.M.Memory.held l.fn.memory; left : write_get (bytes_to l.address (8 * l.i) (joined_doublewords l.values l.i)) (g.M.Memory.byte l.memory) ≡ write_get (bytes_to l.address (8 * l.count) (joined_doublewords l.values l.count)) (g.M.Memory.byte l.fn.memory) }
