use Rattle.std.proofs.Common.{◌≡◌}
use Rattle.s390x_operations.specs.State.{bytes_to, write_get}
use Rattle.s390x_machine.specs.Regions.{HoldsAll, byte_of, is_held}
use Rattle.s390x_machine.proofs.flat.FlatMemory.put_number_from.Given as goal

abbrev pub invariant-loop-i : goal.invariant-loop-i
invariant-loop-i l = record {
  same : is_held l.self ≡ is_held l.fn.self;
  holds : HoldsAll l.region l.self.regions.items l.address l.n;
  left : write_get (bytes_to l.address l.i l.rest) (byte_of l.self) ≡ write_get (bytes_to l.address l.n l.value) (byte_of l.fn.self);
}
