use Rattle.std.proofs.Common.{arith}
use Rattle.s390x_operations.proofs.Numbers.{room}
use Rattle.s390x_machine.specs.Regions.{byte_of}
use Rattle.s390x_machine.proofs.Numbers.{number_more}
use Rattle.s390x_machine.proofs.flat.FlatMemory.doubleword.Goals as goal

pub region_byte-requires : goal.region_byte-requires
region_byte-requires c = c.requires c.loop-k.k c.loop-k-test.true

pub overflow_mul-total : goal.overflow_mul-total
overflow_mul-total c = omega (arith, room c.loop-k.k c.loop-k.total (omega arith) c.loop-k.invariant.small)

pub overflow_add-total : goal.overflow_add-total
overflow_add-total c = omega (arith, room c.loop-k.k c.loop-k.total (omega arith) c.loop-k.invariant.small)

pub loop-k-preserved : goal.loop-k-preserved
loop-k-preserved c = record {
  number = let e = number_more (byte_of c.args.self.now) c.args.address c.loop-k.k in omega (arith, e, c.region_byte.ensures.value);
  small = omega (arith, room c.loop-k.k c.loop-k.total (omega arith) c.loop-k.invariant.small);
}
