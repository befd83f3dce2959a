use Rattle.std.proofs.Common.{ap, ◌∙◌, ◌+◌}
use Rattle.s390x_operations.specs.State.{Registers}
use Rattle.s390x_operations.specs.Effects.{set_sized}
use Rattle.s390x_machine.proofs.machine.Machine.put_pair.Goals as goal

pub returns-clause-registers : goal.returns-clause-registers
returns-clause-registers c = c.put_sized-2.ensures.registers ∙ ap (λ (r : Registers). set_sized c.args.size r (c.args.pair + 1) c.args.values.low) c.put_sized.ensures.registers
