use Rattle.std.proofs.Common.{sym, ◌∙◌}
use Rattle.s390x_machine.proofs.memory.Memory.put_reached.Goals as goal

pub put_number-requires : goal.put_number-requires
put_number-requires g c = sym (sym c.if-not-has_all.false ∙ c.has_all.ensures)
