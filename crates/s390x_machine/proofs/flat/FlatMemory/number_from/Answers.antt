use Rattle.std.proofs.Common.{arith}
use Rattle.s390x_operations.proofs.Numbers.{wide_room}
use Rattle.s390x_machine.specs.Regions.{byte_of}
use Rattle.s390x_machine.proofs.Numbers.{number_more}
use Rattle.s390x_machine.proofs.flat.FlatMemory.number_from.Goals as goal

pub byte_from-requires : goal.byte_from-requires
byte_from-requires c = c.requires.holds c.loop-i.i c.loop-i-test.true

pub overflow_mul-total : goal.overflow_mul-total
overflow_mul-total c = omega (arith, wide_room c.loop-i.i c.loop-i.total (omega arith) c.loop-i.invariant.small)

pub overflow_add-total : goal.overflow_add-total
overflow_add-total c = omega (arith, wide_room c.loop-i.i c.loop-i.total (omega arith) c.loop-i.invariant.small)

pub loop-i-preserved : goal.loop-i-preserved
loop-i-preserved c = record {
  number = let e = number_more (byte_of c.args.self.now) c.args.address c.loop-i.i in omega (arith, e, c.byte_from.ensures);
  small = omega (arith, wide_room c.loop-i.i c.loop-i.total (omega arith) c.loop-i.invariant.small);
}
