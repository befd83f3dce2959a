use Rattle.std.proofs.Common.{ap, refl}
use Rattle.s390x_operations.specs.State.{Registers}
use Rattle.s390x_execution.proofs.Starting.{registers_started}
use Rattle.s390x_execution.proofs.start.start_machine.Goals as goal

pub returns-clause-registers : goal.returns-clause-registers
returns-clause-registers c =
    registers_started _ _ _ _ c.args.registers.now (ap (λ (r : Registers). r.access) c.new-machine.ensures.registers) (ap (λ (r : Registers). r.code) c.new-machine.ensures.registers) refl refl
