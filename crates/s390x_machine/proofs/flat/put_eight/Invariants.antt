use Rattle.std.proofs.Common.{◌≡◌, length}
use Rattle.s390x_operations.specs.State.{bytes_to}
use Rattle.s390x_machine.specs.Regions.{write_bytes}
use Rattle.s390x_machine.proofs.flat.put_eight.Given as goal

abbrev pub invariant-loop-k : goal.invariant-loop-k
invariant-loop-k l = record {
  long : length l.bytes ≡ length l.fn.bytes;
  left : write_bytes l.start (bytes_to l.address l.k l.rest) l.bytes ≡ write_bytes l.start (bytes_to l.address 8 l.value) l.fn.bytes;
}
