use Rattle.std.proofs.Common.{arith, ◌∙◌, sym}
use Rattle.s390x_operations.proofs.Numbers.{room}
use Rattle.s390x_operations.proofs.Runs.{reversed_more}
use Rattle.s390x_operations.proofs.byte_values.bytes_in_reverse.Goals as goal

pub overflow_mul-done : goal.overflow_mul-done
overflow_mul-done c = omega (arith, room c.loop-i.i c.loop-i.done (omega arith) c.loop-i.invariant.small)

pub overflow_add-done : goal.overflow_add-done
overflow_add-done c = omega (arith, room c.loop-i.i c.loop-i.done (omega arith) c.loop-i.invariant.small)

pub loop-i-preserved : goal.loop-i-preserved
loop-i-preserved c = record {
  left = sym (reversed_more c.args.n c.loop-i.i c.loop-i.rest c.loop-i.done c.loop-i-test.true) ∙ c.loop-i.invariant.left;
  small = omega (arith, room c.loop-i.i c.loop-i.done (omega arith) c.loop-i.invariant.small);
}
