use Rattle.std.proofs.Common.{refl, arith}
use Rattle.s390x_machine.specs.State.{state_of}
use Rattle.s390x_machine.proofs.Stepping.{missing_stops}
use Rattle.s390x_machine.proofs.machine.Machine.step.Goals as goal

pub bytes_step-requires-clause-at : goal.bytes_step-requires-clause-at
bytes_step-requires-clause-at g c = refl

pub bytes_step-requires-clause-even : goal.bytes_step-requires-clause-even
bytes_step-requires-clause-even g c = omega (arith, c.if-place-eq1.false)

pub bytes_step-requires-clause-there : goal.bytes_step-requires-clause-there
bytes_step-requires-clause-there g c = c.in-Some.ensures

pub returns-in-None : goal.returns-in-None
returns-in-None g c =
    missing_stops (state_of c.args.self.now (g.M.Memory.held c.args.memory.now) (g.M.Memory.byte c.args.memory.now)) (omega (arith, c.if-place-eq1.false), c.in-None.ensures)
