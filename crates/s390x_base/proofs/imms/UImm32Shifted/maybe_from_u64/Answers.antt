use Rattle.s390x_base.proofs.Shifting.{no_half}
use Rattle.s390x_base.proofs.imms.UImm32Shifted.maybe_from_u64.Goals as goal

pub returns-else-value-2-clause-least : goal.returns-else-value-2-clause-least
returns-else-value-2-clause-least c bits shift = no_half c.args.value bits shift c.if-value.false c.if-value-2.false
