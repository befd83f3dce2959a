use Rattle.std.proofs.Common.{arith}
use Rattle.s390x_operations.proofs.Runs.{ones_of_byte}
use Rattle.s390x_operations.proofs.byte_values.+ones_by_byte.Goals as goal

pub overflow_mul-result : goal.overflow_mul-result
overflow_mul-result t c = omega (arith, c.ones_by_byte.ensures.at_most)

pub overflow_add-result : goal.overflow_add-result
overflow_add-result t c = omega (arith, c.ones_by_byte.ensures.at_most, ones_of_byte c.args.x)

pub returns-else-n-eq0-clause-at_most : goal.returns-else-n-eq0-clause-at_most
returns-else-n-eq0-clause-at_most t c = omega (arith, c.ones_by_byte.ensures.at_most, ones_of_byte c.args.x)
