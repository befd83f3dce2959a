-- An instruction has at most six bytes.
use Rattle.std.proofs.Common.{arith}
use Rattle.s390x_format.proofs.FormatFacts.{length_small}
use Rattle.s390x_format_numbers.proofs.short_length.Goals as goal

pub overflow_cast-result : goal.overflow_cast-result
overflow_cast-result c = omega (arith, length_small c.args.kind)
