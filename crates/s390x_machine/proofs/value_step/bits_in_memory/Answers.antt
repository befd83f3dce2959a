use Rattle.s390x_machine.specs.State.{memory_of}
use Rattle.s390x_machine.proofs.ValueSteps.{read_there}
use Rattle.s390x_machine.proofs.value_step.bits_in_memory.Goals as goal

pub returns-in-Some : goal.returns-in-Some
returns-in-Some g c =
    let m = memory_of (g.M.Memory.held c.args.memory.now) (g.M.Memory.byte c.args.memory.now) in
    read_there c.args.operand c.args.width c.in-Some.address c.bytes-n.result m c.reached_number.result c.bytes-n.ensures.value c.in-Some.ensures c.reached_number.ensures
