use Rattle.s390x_base.proofs.Shifting.{third_part, no_part}
use Rattle.s390x_base.proofs.imms.UImm16Shifted.maybe_from_u64.Goals as goal

pub returns-then-value-4-clause-least : goal.returns-then-value-4-clause-least
returns-then-value-4-clause-least c bits shift = third_part c.args.value bits shift c.if-value.false c.if-value-2.false c.if-value-3.false

pub returns-else-value-4-clause-least : goal.returns-else-value-4-clause-least
returns-else-value-4-clause-least c bits shift = no_part c.args.value bits shift c.if-value.false c.if-value-2.false c.if-value-3.false c.if-value-4.false
