use Rattle.std.proofs.Common.{sym, ◌∙◌}
use Rattle.s390x_machine.proofs.memory.Memory.reached_number.Goals as goal

pub number-requires-clause-there : goal.number-requires-clause-there
number-requires-clause-there g c = sym (sym c.if-not-has_all.false ∙ c.has_all.ensures)

pub returns : goal.returns
returns g c = (sym (sym c.if-not-has_all.false ∙ c.has_all.ensures), c.number.ensures.value)
